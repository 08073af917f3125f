-- The powers of (nothing done, both, x) are the lowest of x taken some times or not at all, for effects whose rights are words.
use Prim.Native.Nat.{ℕ, zero, suc}
use mathlib.Core.Path.{◌≡◌, refl, sym, ap, ◌∙◌}
use mathlib.Core.Bool.{true}
use Rattle.effect.specs.declared.Effect.{Effect}
use Rattle.effect.specs.Whole.{at_most_of, then_of, both_of, nothing_done}
use Rattle.effect.proofs.Laws.{Words, both_words, then_words, nothing_words, both_six, then_six, then_normal, both_normal, both_left, both_right, both_greatest, then_mono, at_most_refl, at_most_trans, at_most_anti, then_both_l, then_both_r, then_nothing_l, then_nothing_r}
use Rattle.model.specs.Stocks.{permits}
use Rattle.model.specs.Rounds.{lowest_rounds}

-- y taken 1 + n times
unfoldable pub power : Effect → ℕ → Effect
power y zero = y
power y (suc n) = then_of (power y n) y

-- nothing done, before and after what is left of words
both_first : (a b : Effect) → Words a → then_of nothing_done (both_of a b) ≡ both_of a b
both_first a b w = then_nothing_l (both_of a b) (both_normal a b) (both_six a b) (both_words a b w)

both_last : (a b : Effect) → Words a → then_of (both_of a b) nothing_done ≡ both_of a b
both_last a b w = then_nothing_r (both_of a b) (both_normal a b) (both_six a b) (both_words a b w)

then_first : (a b : Effect) → Words b → then_of nothing_done (then_of a b) ≡ then_of a b
then_first a b w = then_nothing_l (then_of a b) (then_normal a b) (then_six a b) (then_words a b w)

-- (nothing done, both, low), then x, is x, both, low then x
pub once_more : (x low : Effect) → Words x → then_of (both_of nothing_done low) x ≡ both_of x (then_of low x)
once_more x low w =
    then_both_l nothing_done low x
    ∙ ap (both_of (then_of nothing_done x)) (sym (then_first low x w))
    ∙ sym (then_both_r nothing_done x (then_of low x))
    ∙ both_first x (then_of low x) w

module _ (x : Effect) where
  abbrev low : ℕ → Effect
  low n = lowest_rounds permits x n

  abbrev once : Effect
  once = both_of nothing_done x

  more_mono : (a b : Effect) → at_most_of a b ≡ true → at_most_of (both_of x (then_of a x)) (both_of x (then_of b x)) ≡ true
  more_mono a b h =
      let m = both_of x (then_of a x) in
      both_greatest m x (then_of b x) (both_left x (then_of a x))
      (at_most_trans m (then_of a x) (then_of b x) (both_right x (then_of a x)) (then_mono a b x x h (at_most_refl x)))

  falls : (n : ℕ) → at_most_of (low (suc n)) (low n) ≡ true
  unfolding lowest_rounds
  falls zero = both_left x (then_of x x)
  falls (suc n) = more_mono (low (suc n)) (low n) (falls n)

  -- one more of `once` lowers by one more round
  module _ (n : ℕ) where
    abbrev all : Effect
    all = both_of nothing_done (low (suc n))

    abbrev rest : Effect
    rest = both_of (then_of (low n) nothing_done) (then_of (low n) x)

    apart : then_of (both_of nothing_done (low n)) once ≡ both_of once rest
    apart =
        then_both_l nothing_done (low n) once
        ∙ (λ i. both_of (both_first nothing_done x nothing_words i) (then_both_r (low n) nothing_done x i))

    all_low : at_most_of all (low (suc n)) ≡ true
    all_low = both_right nothing_done (low (suc n))

    all_x : at_most_of all x ≡ true
    unfolding lowest_rounds
    all_x = at_most_trans all (low (suc n)) x all_low (both_left x (then_of (low n) x))

    all_then : at_most_of all (then_of (low n) x) ≡ true
    unfolding lowest_rounds
    all_then = at_most_trans all (low (suc n)) (then_of (low n) x) all_low (both_right x (then_of (low n) x))

    all_kept : at_most_of all (then_of (low n) nothing_done) ≡ true
    all_kept =
        let h = then_mono all (low n) nothing_done nothing_done (at_most_trans all (low (suc n)) (low n) all_low (falls n)) (at_most_refl nothing_done) in
        rw (both_last nothing_done (low (suc n)) nothing_words) at h

    parts_then : at_most_of (both_of once rest) (then_of (low n) x) ≡ true
    parts_then = at_most_trans (both_of once rest) rest (then_of (low n) x) (both_right once rest) (both_right (then_of (low n) nothing_done) (then_of (low n) x))

    lowers : then_of (both_of nothing_done (low n)) once ≡ all
    unfolding lowest_rounds
    lowers =
        let parts = both_of once rest in
        apart
        ∙ at_most_anti parts all (both_normal once rest) (both_normal nothing_done (low (suc n))) (both_six once rest) (both_six nothing_done (low (suc n)))
        (both_greatest parts nothing_done (low (suc n)) (at_most_trans parts once nothing_done (both_left once rest) (both_left nothing_done x))
        (both_greatest parts x (then_of (low n) x) (at_most_trans parts once x (both_left once rest) (both_right nothing_done x)) parts_then))
        (both_greatest all once rest (both_greatest all nothing_done x (both_left nothing_done (low (suc n))) all_x)
        (both_greatest all (then_of (low n) nothing_done) (then_of (low n) x) all_kept all_then))

  pub powers_lower : (n : ℕ) → power once n ≡ both_of nothing_done (low n)
  unfolding power lowest_rounds
  powers_lower zero = refl
  powers_lower (suc n) = ap (λ a. then_of a once) (powers_lower n) ∙ lowers n
