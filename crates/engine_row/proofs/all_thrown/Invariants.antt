use Rattle.rule_ask.specs.Walk.{thrown_walk}
use Rattle.engine_row.specs.Lowers.{sheet_of, lowers}
use Rattle.engine_row.proofs.Turn.{Turning}
use Rattle.engine_row.proofs.all_thrown.Given as goal

abbrev pub invariant-loop-e : goal.invariant-loop-e
invariant-loop-e l = Turning (thrown_walk l.g.file.now l.g.tables l.x sheet_of (lowers l.x) l.c) l.initial.s l.initial.told 0 8 l.e l.s l.told
