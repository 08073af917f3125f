-- `least_of` is what its comment says, and a loop that counts upwards computes it.
use Prim.Native.Nat.{ℕ, zero, suc, ◌+◌, ◌≤◌, ◌<◌, min}
use mathlib.Core.Path.{◌≡◌, refl, ap, ◌∙◌}
use native.Mathlib.Nat.{zero-add}
use native.Mathlib.Omega.{arith}
use native.Mathlib.Decide.{dec_le, dec_lt}
use Rattle.words.specs.Turn.{in_turn}
use Rattle.words.specs.Least.{least_of}
use Rattle.words.proofs.Turn.{turn_next}

module _ (top : ℕ) (p : ℕ → ℕ) where
  more : (n : ℕ) → least_of top p (suc n) ≡ min (least_of top p n) (p n)
  unfolding in_turn
  more n = λ i. min (least_of top p n) (p (zero-add n i))

  -- one more, as a loop finds it
  pub least_more : {a b m : ℕ} (k : ℕ) → a ≡ least_of top p k → b ≡ p k → m ≡ min a b → m ≡ least_of top p (k + 1)
  least_more {a} {b} {m} k h q r = turn_next (λ j least. min least (p j)) top h (r ∙ ap (min a) q)

  -- it is at most each of them,
  pub least_under : (n k : ℕ) → k < n → least_of top p n ≤ p k
  least_under zero k l = absurd (omega arith)
  least_under (suc n) k l = elim (dec_lt k n) [
    | yes h ↦ omega (arith, more n, least_under n k h)
    | no h ↦ let q : k ≡ n = omega arith in rw q (omega (arith, more n))
  ]

  -- and one of them, where it is below `top`
  pub least_hit : (n : ℕ) → least_of top p n < top → (k : ℕ) × (k < n) × (p k ≡ least_of top p n)
  unfolding in_turn
  least_hit zero l = absurd (omega arith)
  least_hit (suc n) l = elim (dec_le (least_of top p n) (p n)) [
    | yes h ↦ let r = least_hit n (omega (arith, more n)) in (r.0, omega (arith, r.1), omega (arith, more n, r.2))
    | no h ↦ (n, omega arith, omega (arith, more n))
  ]

  -- `top` where each is
  pub least_none : (n : ℕ) → ((k : ℕ) → k < n → p k ≡ top) → least_of top p n ≡ top
  unfolding in_turn
  least_none zero h = refl
  least_none (suc n) h = omega (arith, more n, h n (omega arith), least_none n (λ k l. h k (omega arith)))
