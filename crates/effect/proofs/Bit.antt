-- A number is its bits: `bit_and` and `bit_or` are min and max at each bit.
use Prim.Native.Nat.{ℕ, zero, suc, ◌-◌, ◌/◌, ◌%◌, ◌^◌, ◌≤◌, ◌<◌, min, max}
use mathlib.Core.Path.{◌≡◌, refl, sym, ◌∙◌, ap}
use mathlib.Core.Bool.{true}
use native.Mathlib.Omega.{arith}
use native.Mathlib.Decide.{dec_lt}
use native.Mathlib.Numerals.{one-add}
use native.Mathlib.Nat.{min-eq_left, zero-div}
use lib.Bits.{bit_and, bit_or, and_step, or_step, and_shr, or_shr}
use lib.Pow.{shr-shr, pow_pos}
use lib.Arith.{bin_ind}
use borrow.Author.Tests.{eqb-true, eq-eqb}
use Rattle.effect_number.specs.Formulas.{within}
use Rattle.effect.specs.Coordinate.{bit}

pub bit_lt : (k n : ℕ) → bit k n < 2
unfolding bit
bit_lt k n = omega arith

pub bit_first : (n : ℕ) → bit 0 n ≡ n % 2
unfolding bit
bit_first n = omega arith

pub bit_half : (k n : ℕ) → bit k (n / 2) ≡ bit (suc k) n
unfolding bit
bit_half k n = ap (λ (x : ℕ). x % 2) (shr-shr n 1 k ∙ ap (λ (x : ℕ). n / 2 ^ x) (one-add k))

pub bit_and_lem : (k a b : ℕ) → bit k (bit_and a b) ≡ min (bit k a) (bit k b)
unfolding bit
bit_and_lem k a b = omega (arith, and_shr a b k, and_step (a / 2 ^ k) (b / 2 ^ k))

pub bit_or_lem : (k a b : ℕ) → bit k (bit_or a b) ≡ max (bit k a) (bit k b)
unfolding bit
bit_or_lem k a b = omega (arith, or_shr a b k, or_step (a / 2 ^ k) (b / 2 ^ k))

no_bits : (b : ℕ) → ((k : ℕ) → bit k b ≡ 0) → b ≡ 0
no_bits =
    bin_ind (λ b. ((k : ℕ) → bit k b ≡ 0) → b ≡ 0) (λ h. refl)
    (λ b ih h. omega (arith, ih (λ k. bit_half k b ∙ h (suc k)), bit_first b, h 0))

pub bit_none : (k : ℕ) → bit k 0 ≡ 0
unfolding bit
bit_none k = ap (λ (x : ℕ). x % 2) (zero-div (2 ^ k))

-- two numbers with the same bits are one
pub bit_ext : (a b : ℕ) → ((k : ℕ) → bit k a ≡ bit k b) → a ≡ b
bit_ext =
    bin_ind (λ a. (b : ℕ) → ((k : ℕ) → bit k a ≡ bit k b) → a ≡ b)
    (λ b h. sym (no_bits b (λ k. sym (h k) ∙ bit_none k)))
    (λ a ih b h. omega (arith, ih (b / 2) (λ k. bit_half k a ∙ h (suc k) ∙ sym (bit_half k b)), bit_first a, bit_first b, h 0))

-- the test of `within` is the order at each bit
pub within_bit : (a b : ℕ) → within a b ≡ true → (k : ℕ) → bit k a ≤ bit k b
unfolding within
within_bit a b t k = omega (arith, bit_and_lem k a b, ap (bit k) (eqb-true (bit_and a b) a t))

pub bit_within : (a b : ℕ) → ((k : ℕ) → bit k a ≤ bit k b) → within a b ≡ true
unfolding within
bit_within a b h = eq-eqb (bit_and a b) a (bit_ext (bit_and a b) a (λ k. bit_and_lem k a b ∙ min-eq_left (h k)))

-- a number below 2 ^ j has no bit from j on, and 2 ^ j - 1 has every bit before
pub bit_high : (j k a : ℕ) → a < 2 ^ j → j ≤ k → bit k a ≡ 0
bit_high zero k a h l = let e : a ≡ 0 = omega arith in rw e (bit_none k)
bit_high (suc j) zero a h l = absurd (omega arith)
bit_high (suc j) (suc k) a h l = sym (bit_half k a) ∙ bit_high j k (a / 2) (omega arith) (omega arith)

pub bit_ones : (j b : ℕ) → b < j → bit b (2 ^ j - 1) ≡ 1
bit_ones zero b h = absurd (omega arith)
bit_ones (suc j) zero h = bit_first (2 ^ suc j - 1) ∙ omega (arith, pow_pos j)
bit_ones (suc j) (suc b) h =
    let e : (2 ^ suc j - 1) / 2 ≡ 2 ^ j - 1 = omega (arith, pow_pos j) in
    sym (bit_half b (2 ^ suc j - 1)) ∙ ap (bit b) e ∙ bit_ones j b (omega arith)

-- of a word only sixteen bits need be looked at
pub word_bits : (a c : ℕ) → a < 65536 → ((b : ℕ) → b < 16 → bit b a ≤ bit b c) → (b : ℕ) → bit b a ≤ bit b c
word_bits a c h q b = elim (dec_lt b 16) [
  | yes l ↦ q b l
  | no l ↦ omega (arith, bit_high 16 b a h (omega arith))
]
