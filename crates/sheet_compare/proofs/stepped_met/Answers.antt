use mathlib.Core.Path.{◌≡◌, sym, ap, ◌∙◌}
use mathlib.Core.Bool.{true, false}
use lib.Dec.{eqb}
use Rattle.effect.specs.Six.{effect_of}
use Rattle.effect.specs.Whole.{one_if, then_of}
use Rattle.effect.proofs.Failing.{fails_none}
use Rattle.sheet.specs.Read.{marked, effect_at}
use Rattle.sheet.specs.Under.{effect_under}
use Rattle.sheet_compare.proofs.stepped_met.Goals as goal

pub returns-then-is_marked : goal.returns-then-is_marked
unfolding effect_under
returns-then-is_marked c =
    let a = c.args in
    let m : marked a.s.now a.v ≡ true = sym c.is_marked.ensures ∙ c.if-is_marked.true in
    ap (λ k. eqb k 6) c.stepped_fails.ensures
    ∙ fails_none (effect_at a.s.now a.x.types a.v) (then_of (effect_at a.s.now a.x.types a.w) (effect_of (λ k. one_if (eqb k a.n) a.y)))
    ∙ simp m

pub returns-else-is_marked : goal.returns-else-is_marked
unfolding effect_under
returns-else-is_marked c =
    let a = c.args in
    let m : marked a.s.now a.v ≡ false = sym c.is_marked.ensures ∙ c.if-is_marked.false in
    simp m c.if-is_marked.false
