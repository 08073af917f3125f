use mathlib.Core.Path.{refl}
use Rattle.words.specs.Turn.{in_turn}
use Rattle.words.proofs.Turn.{turn_next}
use Rattle.rule_ask.specs.Walk.{thrown_walk}
use Rattle.rule_test.specs.Keys.{lessened}
use Rattle.rule_test.proofs.all_thrown.Goals as goal

pub loop-e-init : goal.loop-e-init
unfolding in_turn
loop-e-init c = refl

pub loop-e-preserved : goal.loop-e-preserved
loop-e-preserved c =
    let a = c.args in
    turn_next (thrown_walk a.g.now.file.now a.g.now.tables a.x (λ v. a.s.now) (lessened a.x a.s.now) a.c) a.least c.loop-e.invariant c.thrown-key.ensures
