use mathlib.Core.Path.{◌≡◌, ap, ◌∙◌}
use mathlib.Core.Bool.{true, false}
use Rattle.words.specs.Turn.{in_turn}
use Rattle.rule_ask.specs.Walk.{into_walk, thrown_walk, called_walk}
use Rattle.rule_test.specs.Keys.{lessened}
use Rattle.rule_test.proofs.of_call.Goals as goal

pub returns-then-c : goal.returns-then-c
unfolding called_walk
returns-then-c c =
    let a = c.args in
    let m : c.of_call-c.result.marked ≡ true = c.if-c.true in
    rw (← c.of_call-c.ensures)
    (c.all_thrown.ensures
    ∙ ap (in_turn (thrown_walk a.g.now.file.now a.g.now.tables a.x (λ v. a.s.now) (lessened a.x a.s.now) c.of_call-c.result) 0 8)
    (c.into_call-into.ensures ∙ ap (into_walk a.g.now.file.now a.g.now.tables a.x (λ v. a.s.now) (lessened a.x a.s.now) c.of_call-c.result) c.after_call-after.ensures)
    ∙ simp m)

pub returns : goal.returns
unfolding called_walk
returns c =
    let m : c.of_call-c.result.marked ≡ false = c.if-c.false in
    rw (← c.of_call-c.ensures) (simp m)
