use mathlib.Core.Path.{◌≡◌}
use Rattle.words.specs.Turn.{in_turn}
use Rattle.rule_ask.specs.Walk.{thrown_walk}
use Rattle.rule_test.specs.Keys.{lessened}
use Rattle.rule_test.proofs.all_thrown.Given as goal

abbrev pub invariant-loop-e : goal.invariant-loop-e
invariant-loop-e l = l.key ≡ in_turn (thrown_walk l.g.file.now l.g.tables l.x (λ v. l.s) (lessened l.x l.s) l.c) 0 l.e l.least
