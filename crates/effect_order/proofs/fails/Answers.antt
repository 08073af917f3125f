use borrow.Author.Rules.{rules}
use Prim.Native.Nat.{ℕ}
use mathlib.Core.Path.{refl, ◌≡◌, ◌∙◌}
use mathlib.Core.Bool.{Bool, true, false, not}
use Rattle.std.proofs.lemmas.Iterator.{first_from_Range}
use Rattle.words.proofs.Lowest.{find_lowest}
use Rattle.effect_one.specs.Formulas.{at_most_one}
use Rattle.effect.specs.Six.{one_at}
use Rattle.effect.specs.Whole.{fails_of}
use Rattle.effect.proofs.Means.{tells_fails}
use Rattle.effect_order.proofs.fails.Goals as goal

pub returns : goal.returns
unfolding fails_of
returns c =
    let a = c.args in
    let p : ℕ → Bool = λ k. not (at_most_one (one_at a.a k) (one_at a.b k)) in
    let all = tells_fails a.a a.b c.well_formed.0
    (c.unwrap_or.ensures
    ∙ find_lowest p refl _
    (first_from_Range _ _ _ _ (λ k. p k ≡ true) (λ k. p k ≡ false) c.find.ensures.ran (λ x q k. search rules) (λ x q k. search rules))) in
    record { equals = all.0; means = all.1 }
