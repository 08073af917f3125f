-- Four words as one number tell the four apart, and are 0 exactly if each is.
use Prim.Native.Nat.{ℕ, ◌+◌}
use mathlib.Core.Path.{◌≡◌}
use mathlib.Core.List.{List}
use native.Mathlib.Omega.{arith}
use Rattle.words.specs.Bytes.{word_at}
use Rattle.words.specs.Four.{four_at}
use Rattle.words.proofs.Read.{word_lt}

module _ (s : List ℕ) where
  -- the four words at a are those at b
  pub record SameFour (a b : ℕ) : Type 0 where
    pub first : word_at s a ≡ word_at s b
    pub second : word_at s (a + 2) ≡ word_at s (b + 2)
    pub third : word_at s (a + 4) ≡ word_at s (b + 4)
    pub fourth : word_at s (a + 6) ≡ word_at s (b + 6)

  -- each of the four words at a is 0
  pub record ZeroFour (a : ℕ) : Type 0 where
    pub first : word_at s a ≡ 0
    pub second : word_at s (a + 2) ≡ 0
    pub third : word_at s (a + 4) ≡ 0
    pub fourth : word_at s (a + 6) ≡ 0

  pub four_same : (a b : ℕ) → four_at s a ≡ four_at s b → SameFour a b
  unfolding four_at
  four_same a b e =
      let p = word_lt s a in
      let q = word_lt s (a + 2) in
      let r = word_lt s (a + 4) in
      let p' = word_lt s b in
      let q' = word_lt s (b + 2) in
      let r' = word_lt s (b + 4) in
      record { first = omega arith; second = omega arith; third = omega arith; fourth = omega arith }

  pub four_zero : (a : ℕ) → four_at s a ≡ 0 → ZeroFour a
  unfolding four_at
  four_zero a e = record { first = omega arith; second = omega arith; third = omega arith; fourth = omega arith }

  pub zero_four : (a : ℕ) → ZeroFour a → four_at s a ≡ 0
  unfolding four_at
  zero_four a z = omega (arith, z.first, z.second, z.third, z.fourth)
