-- Six types: what holds of each holds of the whole, and the other way round.
use Prim.Native.Nat.{ℕ, zero, suc, ◌<◌}
use mathlib.Core.Path.{◌≡◌, refl}
use mathlib.Core.Bool.{Bool, true, false, ◌&&◌}
use mathlib.Core.List.{List, [], ◌∷◌}
use mathlib.Core.Logic.{⊎_elim}
use native.Mathlib.Omega.{arith}
use lib.ListN.{get_or, length}
use Rattle.effect_one.specs.declared.Held.{Held}
use Rattle.effect_one.specs.declared.One.{One}
use Rattle.effect.specs.declared.Stock.{Stock}
use Rattle.effect.specs.declared.Effect.{Effect}
use Rattle.effect.specs.Six.{six, among, all_six, one_at, effect_of, held_at, stock_of}
use Rattle.effect.proofs.Bools.{and_l, and_r, and_i, and_no}

-- a fact at each of the six numbers is a fact at each number below six
pub below_six : (P : ℕ → Type 0) → P 0 → P 1 → P 2 → P 3 → P 4 → P 5 → (k : ℕ) → k < 6 → P k
below_six P a b c d e f zero h = a
below_six P a b c d e f (suc zero) h = b
below_six P a b c d e f (suc (suc zero)) h = c
below_six P a b c d e f (suc (suc (suc zero))) h = d
below_six P a b c d e f (suc (suc (suc (suc zero)))) h = e
below_six P a b c d e f (suc (suc (suc (suc (suc zero))))) h = f
below_six P a b c d e f (suc (suc (suc (suc (suc (suc k)))))) h = absurd (omega arith)

module _ (f : ℕ → Bool) where
  pub all_i : ((k : ℕ) → k < 6 → f k ≡ true) → all_six f ≡ true
  all_i h =
      and_i (h 0 (omega arith))
      (and_i (h 1 (omega arith)) (and_i (h 2 (omega arith)) (and_i (h 3 (omega arith)) (and_i (h 4 (omega arith)) (h 5 (omega arith))))))

  pub all_e : all_six f ≡ true → (k : ℕ) → k < 6 → f k ≡ true
  all_e t =
      let t1 = and_r (f 0) _ t in
      let t2 = and_r (f 1) _ t1 in
      let t3 = and_r (f 2) _ t2 in
      let t4 = and_r (f 3) _ t3 in
      below_six (λ k. f k ≡ true) (and_l (f 0) _ t) (and_l (f 1) _ t1) (and_l (f 2) _ t2) (and_l (f 3) _ t3) (and_l (f 4) _ t4) (and_r (f 4) _ t4)

  -- a test that does not hold at all six fails at one
  abbrev Found : Type 0
  Found = (k : ℕ) × (k < 6) × (f k ≡ false)

  or_else : (k : ℕ) → k < 6 → (b : Bool) → (b ≡ false → Found) → (f k && b) ≡ false → Found
  or_else k h b g e = ⊎_elim (λ p. (k, h, p)) g (and_no (f k) b e)

  pub all_find : all_six f ≡ false → Found
  all_find =
      or_else 0 (omega arith) _
      (or_else 1 (omega arith) _
      (or_else 2 (omega arith) _ (or_else 3 (omega arith) _ (or_else 4 (omega arith) _ (λ p. (5, omega arith, p))))))

-- what is given at each type is found there
pub stock_at_lem : (f : ℕ → Held) (k : ℕ) → k < 6 → held_at (stock_of f) k ≡ f k
stock_at_lem f = below_six (λ k. held_at (stock_of f) k ≡ f k) refl refl refl refl refl refl

pub effect_at_lem : (f : ℕ → One) (k : ℕ) → k < 6 → one_at (effect_of f) k ≡ f k
effect_at_lem f = below_six (λ k. one_at (effect_of f) k ≡ f k) refl refl refl refl refl refl

-- two that agree at the six types are one
pub among_ext : {A : Type 0} (f g : ℕ → A) → ((k : ℕ) → k < 6 → f k ≡ g k) → among (f 0) (f 1) (f 2) (f 3) (f 4) (f 5) ≡ among (g 0) (g 1) (g 2) (g 3) (g 4) (g 5)
among_ext f g h =
    λ i. among (h 0 (omega arith) i) (h 1 (omega arith) i) (h 2 (omega arith) i) (h 3 (omega arith) i) (h 4 (omega arith) i) (h 5 (omega arith) i)

-- a stock, and an effect, of six types and no more
abbrev pub SixHeld : Stock → Type 0
SixHeld s = stock_of (held_at s) ≡ s

abbrev pub SixOnes : Effect → Type 0
SixOnes e = effect_of (one_at e) ≡ e

pub list_six : (l : List ℕ) → length l ≡ 6 → six (λ k. get_or l k 0) ≡ l
list_six (a ∷ b ∷ c ∷ d ∷ e ∷ f ∷ []) h = refl
list_six (a ∷ b ∷ c ∷ d ∷ e ∷ f ∷ g ∷ l) h = absurd (omega arith)
list_six (a ∷ b ∷ c ∷ d ∷ e ∷ []) h = absurd (omega arith)
list_six (a ∷ b ∷ c ∷ d ∷ []) h = absurd (omega arith)
list_six (a ∷ b ∷ c ∷ []) h = absurd (omega arith)
list_six (a ∷ b ∷ []) h = absurd (omega arith)
list_six (a ∷ []) h = absurd (omega arith)
list_six [] h = absurd (omega arith)
