use mathlib.Core.Path.{sym, ap, ◌∙◌}
use borrow.Author.Tests.{eq-eqb, ne_eqb}
use Rattle.effect_one.specs.Formulas.{then_one}
use Rattle.effect.specs.Whole.{one_if}
use Rattle.sheet_compare.proofs.stepped_one.Goals as goal

pub returns-then-k-n : goal.returns-then-k-n
returns-then-k-n c =
    let a = c.args in
    c.then.ensures ∙ (λ i. then_one (c.inner_one-x.ensures i) ((c.nothing_done.ensures ∙ ap (λ b. one_if b a.y) (sym (ne_eqb a.k a.n c.if-k-n.true))) i))

pub returns : goal.returns
returns c =
    let a = c.args in
    c.then-2.ensures ∙ (λ i. then_one (c.inner_one-x.ensures i) (one_if (sym (eq-eqb a.k a.n c.if-k-n.false) i) a.y))
