-- How long the texts of numbers are, and of texts joined.
use Prim.Native.Nat.{ℕ, zero, suc, ◌+◌, ◌*◌, ◌/◌, ◌%◌, ◌≤◌, ◌<◌}
use mathlib.Core.Path.{◌≡◌}
use mathlib.Core.Bool.{Bool, true, false, cond}
use mathlib.Core.List.{List, [], ◌∷◌}
use lib.ListN.{length, length-append}
use lib.Dec.{ltb}
use borrow.Author.Tests.{lt-ltb}
use native.Mathlib.Nat.{suc-mul, mul-le-mul_right}
use native.Mathlib.Omega.{arith}
use Rattle.words_digits.specs.Text.{joined}
use Rattle.words_digits.specs.Digits.{digit, place_text, decimal}

pub decimal_length : (n : ℕ)
    → length (decimal n)
    ≡ length (place_text 10000 n) + length (place_text 1000 n) + length (place_text 100 n) + length (place_text 10 n) + 1
unfolding decimal
decimal_length n = simp length-append

place_few : (p n : ℕ) → length (place_text p n) ≤ 1
unfolding place_text
place_few p n = go (ltb n p)
  where
    go : (b : Bool) → length (cond b [] (digit (n / p % 10) ∷ [])) ≤ 1
    go true = omega arith
    go false = omega arith

place_none : (p n : ℕ) → n < p → length (place_text p n) ≡ 0
unfolding place_text
place_none p n h = rw (lt-ltb n p h)

pub decimal_five : (n : ℕ) → length (decimal n) ≤ 5
decimal_five n = omega (arith, decimal_length n, place_few 10000 n, place_few 1000 n, place_few 100 n, place_few 10 n)

pub decimal_three : (n : ℕ) → n < 1000 → length (decimal n) ≤ 3
decimal_three n h = omega (arith, decimal_length n, place_none 10000 n (omega arith), place_none 1000 n h, place_few 100 n, place_few 10 n)

pub decimal_one : (n : ℕ) → n < 10 → length (decimal n) ≤ 1
decimal_one n h =
    omega (arith, decimal_length n, place_none 10000 n (omega arith), place_none 1000 n (omega arith), place_none 100 n (omega arith), place_none 10 n h)

joined_few : (text : ℕ → List ℕ) (m n : ℕ) → ((k : ℕ) → k < n → length (text k) ≤ m) → length (joined text n) ≤ n * m
unfolding joined
joined_few text m zero h = omega arith
joined_few text m (suc n) h =
    let ih : length (joined text n) ≤ n * m = joined_few text m n (λ k l. h k (omega arith)) in
    omega (arith, length-append (joined text n) (text n), h n (omega arith), suc-mul n m)

-- at most l texts of at most m bytes each
pub most : (text : ℕ → List ℕ) (m n l : ℕ) → n ≤ l → ((k : ℕ) → k < n → length (text k) ≤ m) → length (joined text n) ≤ l * m
most text m n l few h = omega (arith, joined_few text m n h, mul-le-mul_right m few)
