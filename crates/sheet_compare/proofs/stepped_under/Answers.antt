use mathlib.Core.Path.{sym, ap, ◌∙◌}
use borrow.Author.Tests.{eq-eqb, ne_eqb}
use Rattle.effect_one.specs.Formulas.{then_one, at_most_one}
use Rattle.effect.specs.Whole.{one_if}
use Rattle.sheet.specs.Inner.{one_words}
use Rattle.sheet_compare.proofs.Compare.{word_small, idle_under}
use Rattle.sheet_compare.proofs.stepped_under.Goals as goal

pub returns-then-k-n : goal.returns-then-k-n
returns-then-k-n c =
    let a = c.args in
    c.at_most.ensures
    ∙ (λ i. at_most_one (c.inner_one.ensures i) ((c.then.ensures ∙ ap (λ x. then_one x a.y) c.inner_one-then-k-n.ensures) i))
    ∙ ap (λ b. at_most_one (one_words a.s.now a.v a.k) (then_one (one_words a.s.now a.w a.k) (one_if b a.y))) (sym (eq-eqb _ _ c.if-k-n.true))

pub returns : goal.returns
returns c =
    let a = c.args in
    c.one_under.ensures
    ∙ idle_under (one_words a.s.now a.v a.k) (one_words a.s.now a.w a.k) (word_small _ _ _)
    ∙ ap (λ b. at_most_one (one_words a.s.now a.v a.k) (then_one (one_words a.s.now a.w a.k) (one_if b a.y))) (sym (ne_eqb _ _ c.if-k-n.false))
