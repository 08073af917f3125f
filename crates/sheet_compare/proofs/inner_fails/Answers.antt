use borrow.Author.Rules.{rules}
use Prim.Native.Nat.{ℕ}
use mathlib.Core.Path.{refl, ◌≡◌, ◌∙◌}
use mathlib.Core.Bool.{Bool, true, false, not}
use Rattle.std.proofs.lemmas.Iterator.{first_from_Range}
use Rattle.words.proofs.Lowest.{find_lowest}
use Rattle.effect_one.specs.Formulas.{at_most_one}
use Rattle.effect.specs.Six.{one_at}
use Rattle.effect.specs.Whole.{fails_of}
use Rattle.sheet.specs.Read.{effect_at}
use Rattle.sheet_compare.proofs.inner_fails.Goals as goal

pub returns : goal.returns
unfolding fails_of
returns c =
    let a = c.args in
    let p : ℕ → Bool = λ k. not (at_most_one (one_at (effect_at a.s.now a.t a.v) k) (one_at a.e k)) in
    c.unwrap_or.ensures
    ∙ find_lowest p refl _
    (first_from_Range _ _ _ _ (λ k. p k ≡ true) (λ k. p k ≡ false) c.find.ensures.ran (λ x q k. search rules) (λ x q k. search rules))
