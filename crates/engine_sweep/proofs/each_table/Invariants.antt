use Rattle.rule_ask.specs.Gives.{table_at}
use Rattle.rule_ask.specs.Walk.{table_walk}
use Rattle.engine_row.specs.Lowers.{sheet_of, lowers}
use Rattle.engine_row.proofs.Turn.{Turning}
use Rattle.engine_sweep.proofs.each_table.Given as goal

abbrev pub invariant-loop-table : goal.invariant-loop-table
invariant-loop-table l = Turning (λ j. table_walk l.g.file.now l.g.tables l.x sheet_of (lowers l.x) l.backwards (table_at j)) l.initial.s l.initial.told 0 4 l.table-index l.s l.told
