use Prim.Native.Nat.{◌/◌, ◌%◌, ◌<◌, ◌≤◌}
use mathlib.Core.Path.{ap, ◌∙◌}
use borrow.Author.Tests.{lt-ltb, le-ltb}
use Rattle.answer.specs.declared.Answer.TheVariants.{Broken}
use Rattle.rule_test.specs.Keys.{no_key, least_key}
use Rattle.accept.specs.Check.{whole_sheet}
use Rattle.accept.proofs.of_whole.Goals as goal

pub returns-then-key-lt-NONE : goal.returns-then-key-lt-NONE
unfolding whole_sheet
returns-then-key-lt-NONE c =
    let a = c.args in
    let l : least_key a.g.now.file.now a.g.now.tables a.x a.s.now < no_key = rw (← c.least_key-key.ensures) c.if-key-lt-NONE.true in
    ap (λ k. Broken (k / 8) (k % 8)) c.least_key-key.ensures ∙ simp (lt-ltb _ _ l)

pub returns : goal.returns
unfolding whole_sheet
returns c =
    let a = c.args in
    let l : no_key ≤ least_key a.g.now.file.now a.g.now.tables a.x a.s.now = rw (← c.least_key-key.ensures) c.if-key-lt-NONE.false in
    c.verdict.ensures ∙ simp (le-ltb _ _ l)
