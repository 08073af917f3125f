use Rattle.graph_tables.specs.Rows.{rows_of}
use Rattle.rule_ask.specs.Gives.{turned}
use Rattle.rule_ask.specs.Walk.{row_walk}
use Rattle.engine_row.specs.Lowers.{sheet_of, lowers}
use Rattle.engine_row.proofs.Turn.{Turning}
use Rattle.engine_sweep.proofs.each_of.Given as goal

abbrev pub invariant-loop-k : goal.invariant-loop-k
invariant-loop-k l = Turning (λ i. row_walk l.g.file.now l.g.tables l.x sheet_of (lowers l.x) l.table (turned l.backwards (rows_of l.g.tables l.table) i)) l.initial.s l.initial.told 0 (rows_of l.g.tables l.table) l.k l.s l.told
