-- The number of steps: by leading zeros and ones, and never above 14, which is reached.
use Prim.Native.Nat.{ℕ, zero, suc, ◌+◌, ◌-◌, ◌*◌, ◌/◌, ◌^◌, ◌≤◌, ◌<◌}
use mathlib.Core.Path.{◌≡◌, refl, sym, ap, ◌∙◌}
use mathlib.Core.Bool.{Bool, true, ◌&&◌}
use native.Mathlib.Omega.{arith}
use native.Mathlib.Decide.{dec_lt}
use borrow.Author.Tests.{leb-true}
use Rattle.effect.proofs.Bools.{and_l, and_r}
use lib.ListN.{length}
use lib.Dec.{leb}
use lib.Pow.{high}
use lib.Count.{ones, ones_in, ones-le, count_leading_zeros, leading_top}
use Rattle.effect.specs.declared.Effect.{Effect}
use Rattle.rule_rounds.specs.Chain.{power_chain, bit_length, steps_of, most_steps}
use Rattle.rule_rounds.proofs.Powers.{chain_length}

-- the highest digit
module _ (e : ℕ) (some : 0 < e) (word : e < 2 ^ 32) where
  top : (j : ℕ) × (count_leading_zeros 32 e + suc j ≡ 32) × (2 ^ j ≤ e) × (e < 2 ^ suc j)
  top = leading_top 32 e some word

  pub top_word : count_leading_zeros 32 e ≤ 31
  top_word = omega (arith, top.1)

  pub steps_length : (y : Effect) → suc (length (power_chain y e)) ≡ bit_length e - 1 + ones e
  steps_length y = omega (arith, top.1, chain_length y top.0 e top.2 top.3)

  pub steps_word : bit_length e - 1 + ones e ≤ 63
  steps_word = omega (arith, top.1, ones-le 32 e word)

pub top_one : (e j : ℕ) → 2 ^ j ≤ e → e < 2 * 2 ^ j → e / 2 ^ j ≡ 1
top_one e j a b =
    let parts : 1 * 2 ^ j + (e - 2 ^ j) ≡ e = omega (arith, a) in
    ap (λ n. n / 2 ^ j) (sym parts) ∙ high 1 j (omega (arith, a, b))

pub no_steps : (r : ℕ) → r < 2 → 0 ≡ steps_of r
unfolding steps_of
no_steps zero h = refl
no_steps (suc zero) h = refl
no_steps (suc (suc n)) h = absurd (omega arith)

pub some_steps : (r : ℕ) → 2 ≤ r → 31 - count_leading_zeros 32 (r - 1) + ones (r - 1) ≡ steps_of r
unfolding steps_of
some_steps zero h = absurd (omega arith)
some_steps (suc zero) h = absurd (omega arith)
some_steps (suc (suc n)) h = let l : suc (suc n) - 1 ≡ suc n = omega arith in rw l (omega arith)

-- one test, computed over all repeats
all_below : (ℕ → Bool) → ℕ → Bool
all_below p zero = true
all_below p (suc n) = p n && all_below p n

below_all : (p : ℕ → Bool) (n k : ℕ) → k < n → all_below p n ≡ true → p k ≡ true
unfolding all_below
below_all p zero k h a = absurd (omega arith)
below_all p (suc n) k h a = elim (dec_lt k n) [
  | yes l ↦ below_all p n k l (and_r (p n) (all_below p n) a)
  | no l ↦ let e : n ≡ k = omega arith in sym (ap p e) ∙ and_l (p n) (all_below p n) a
]

tested : all_below (λ r. leb (steps_of r) most_steps) 256 ≡ true
unfolding all_below steps_of ones ones_in count_leading_zeros
tested = refl

pub steps_few : (r : ℕ) → r < 256 → steps_of r ≤ most_steps
steps_few r h = leb-true (steps_of r) most_steps (below_all (λ r. leb (steps_of r) most_steps) 256 r h tested)

-- and no lower bound would do
pub steps_most : steps_of 255 ≡ most_steps
unfolding steps_of ones ones_in count_leading_zeros
steps_most = refl
