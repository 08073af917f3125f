use mathlib.Core.Path.{◌≡◌}
use Rattle.words.specs.Turn.{in_turn}
use Rattle.rule_ask.specs.Walk.{row_walk}
use Rattle.rule_test.specs.Keys.{lessened}
use Rattle.rule_test.proofs.of_table.Given as goal

abbrev pub invariant-loop-k : goal.invariant-loop-k
invariant-loop-k l = l.key ≡ in_turn (row_walk l.g.file.now l.g.tables l.x (λ v. l.s) (lessened l.x l.s) l.table) 0 l.k l.least
