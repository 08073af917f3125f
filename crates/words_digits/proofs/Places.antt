-- The digits of a number by the power that each is of, in the order in which they are written.
use Prim.Native.Nat.{ℕ, zero, suc, ◌+◌, ◌/◌, ◌%◌, ◌<◌}
use mathlib.Core.Path.{◌≡◌, refl, ap}
use mathlib.Core.List.{List, [], ◌∷◌, ◌++◌}
use lib.ListN.{length, get_or, take, length-append}
use native.Mathlib.Omega.{arith}
use Rattle.words_digits.specs.Text.{joined}
use Rattle.words_digits.specs.Digits.{digit, place_text, decimal, hex_digit, four_hex}

abbrev pub tens : ℕ → ℕ
tens k = get_or (10000 ∷ 1000 ∷ 100 ∷ 10 ∷ []) k 0

abbrev pub place : ℕ → ℕ → List ℕ
place n k = place_text (tens k) n

pub tens_positive : (k : ℕ) → k < 4 → 0 < tens k
tens_positive zero h = omega arith
tens_positive (suc zero) h = omega arith
tens_positive (suc (suc zero)) h = omega arith
tens_positive (suc (suc (suc zero))) h = omega arith
tens_positive (suc (suc (suc (suc k)))) h = absurd (omega arith)

pub decimal_places : (n : ℕ) → decimal n ≡ joined (place n) 4 ++ (digit (n % 10) ∷ [])
unfolding decimal joined
decimal_places n = refl

pub decimal_length : (n : ℕ) → length (decimal n) ≡ length (joined (place n) 4) + 1
decimal_length n = rw (decimal_places n) (length-append (joined (place n) 4) (digit (n % 10) ∷ []))

abbrev pub sixteens : ℕ → ℕ
sixteens k = get_or (4096 ∷ 256 ∷ 16 ∷ 1 ∷ []) k 0

pub hex_more : (n k : ℕ) → k < 4 → take (k + 1) (four_hex n) ≡ take k (four_hex n) ++ (hex_digit (n / sixteens k % 16) ∷ [])
hex_more n zero h = refl
hex_more n (suc zero) h = refl
hex_more n (suc (suc zero)) h = refl
hex_more n (suc (suc (suc zero))) h =
    let e : n % 16 ≡ n / 1 % 16 = omega arith in
    ap (λ d. hex_digit (n / 4096 % 16) ∷ hex_digit (n / 256 % 16) ∷ hex_digit (n / 16 % 16) ∷ hex_digit d ∷ []) e
hex_more n (suc (suc (suc (suc k)))) h = absurd (omega arith)
