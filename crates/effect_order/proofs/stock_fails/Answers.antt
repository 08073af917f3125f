use borrow.Author.Rules.{rules}
use Prim.Native.Nat.{ℕ}
use mathlib.Core.Path.{refl, ◌≡◌, ◌∙◌}
use mathlib.Core.Bool.{Bool, true, false, not}
use Rattle.std.proofs.lemmas.Iterator.{first_from_Range}
use Rattle.words.proofs.Lowest.{find_lowest}
use Rattle.effect_one.specs.Formulas.{held_at_most}
use Rattle.effect.specs.Six.{held_at}
use Rattle.effect.specs.Whole.{stock_fails_of}
use Rattle.effect.proofs.Means.{tells_stock_fails}
use Rattle.effect_order.proofs.stock_fails.Goals as goal

pub returns : goal.returns
unfolding stock_fails_of
returns c =
    let a = c.args in
    let p : ℕ → Bool = λ k. not (held_at_most (held_at a.s k) (held_at a.t k)) in
    let all = tells_stock_fails a.s a.t c.well_formed.0
    (c.unwrap_or.ensures
    ∙ find_lowest p refl _
    (first_from_Range _ _ _ _ (λ k. p k ≡ true) (λ k. p k ≡ false) c.find.ensures.ran (λ x q k. search rules) (λ x q k. search rules))) in
    record { equals = all.0; means = all.1 }
