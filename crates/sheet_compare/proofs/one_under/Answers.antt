use mathlib.Core.Path.{sym, ◌∙◌}
use borrow.Author.Tests.{eq-eqb}
use Rattle.effect_one.specs.Formulas.{at_most_one}
use Rattle.sheet_compare.proofs.Compare.{same_under}
use Rattle.sheet_compare.proofs.one_under.Goals as goal

pub returns-then-here-there : goal.returns-then-here-there
returns-then-here-there c =
    let a = c.args in
    eq-eqb _ _ c.if-here-there.true
    ∙ sym (same_under a.s.now a.v a.w a.k (sym c.inner_four-here.ensures ∙ c.if-here-there.true ∙ c.inner_four-there.ensures))

pub returns-else-here-there : goal.returns-else-here-there
returns-else-here-there c = c.at_most.ensures ∙ (λ i. at_most_one (c.inner_one.ensures i) (c.inner_one-else-here-there.ensures i))
