-- The decimal and the hex text of a number are read back as that number, and the decimal one starts with 0 for 0 alone.
use Prim.Native.Nat.{ℕ, ◌+◌, ◌-◌, ◌*◌, ◌/◌, ◌%◌, ◌≤◌, ◌<◌}
use mathlib.Core.Path.{◌≡◌, refl, ◌∙◌}
use mathlib.Core.Bool.{Bool, true, false, cond}
use mathlib.Core.List.{List, [], ◌∷◌, ◌++◌}
use lib.ListN.{get_or}
use lib.Dec.{ltb}
use borrow.Author.Tests.{lt-ltb, le-ltb, ltb-true, ltb-false}
use native.Mathlib.Omega.{arith}
use Rattle.words_digits.specs.Digits.{digit, place_text, decimal, hex_digit}

-- the number whose digits are those of v and then the text's
unfoldable pub read_from : ℕ → List ℕ → ℕ
read_from v [] = v
read_from v (d ∷ ds) = read_from (10 * v + (d - 48)) ds

read_more : (v : ℕ) (x y : List ℕ) → read_from v (x ++ y) ≡ read_from (read_from v x) y
unfolding read_from
read_more v [] y = refl
read_more v (d ∷ x) y = read_more (10 * v + (d - 48)) x y

-- with the digit of p read, what was read is n / p
read_place : (p v n : ℕ) → (n < p → v ≡ n / p) → (p ≤ n → 10 * v + (digit (n / p % 10) - 48) ≡ n / p) → read_from v (place_text p n) ≡ n / p
unfolding read_from place_text
read_place p v n small large = go (ltb n p) refl
  where
    go : (b : Bool) → ltb n p ≡ b → read_from v (cond b [] (digit (n / p % 10) ∷ [])) ≡ n / p
    go true q = small (ltb-true n p q)
    go false q = large (ltb-false n p q)

module _ (n : ℕ) (h : n < 65536) where
  pub read_back : read_from 0 (decimal n) ≡ n
  unfolding decimal read_from
  read_back =
      let a : List ℕ = place_text 10000 n in
      let b : List ℕ = a ++ place_text 1000 n in
      let c : List ℕ = b ++ place_text 100 n in
      let d : List ℕ = c ++ place_text 10 n in
      let one : read_from 0 a ≡ n / 10000 = read_place 10000 0 n (λ l. omega arith) (λ l. omega arith) in
      let two : read_from 0 b ≡ n / 1000 = read_more 0 a (place_text 1000 n) ∙ rw one (read_place 1000 (n / 10000) n (λ l. omega arith) (λ l. omega arith)) in
      let three : read_from 0 c ≡ n / 100 = read_more 0 b (place_text 100 n) ∙ rw two (read_place 100 (n / 1000) n (λ l. omega arith) (λ l. omega arith)) in
      let four : read_from 0 d ≡ n / 10 = read_more 0 c (place_text 10 n) ∙ rw three (read_place 10 (n / 100) n (λ l. omega arith) (λ l. omega arith)) in
      read_more 0 d (digit (n % 10) ∷ []) ∙ rw four (omega arith)

  pub no_zeros_in_front : get_or (decimal n) 0 0 ≡ 48 → n ≡ 0
  unfolding decimal place_text
  no_zeros_in_front e = five (ltb n 10000) refl
    where
      one : n < 10 → n ≡ 0
      one l =
          let z : digit (n % 10) ≡ 48 = rw (lt-ltb n 10000 (omega arith), lt-ltb n 1000 (omega arith), lt-ltb n 100 (omega arith), lt-ltb n 10 l) at e in
          omega arith

      two : (b : Bool) → ltb n 10 ≡ b → n < 100 → n ≡ 0
      two true q l = one (ltb-true n 10 q)
      two false q l =
          let k : 10 ≤ n = ltb-false n 10 q in
          let z : digit (n / 10 % 10) ≡ 48 = rw (lt-ltb n 10000 (omega arith), lt-ltb n 1000 (omega arith), lt-ltb n 100 l, q) at e in
          omega arith

      three : (b : Bool) → ltb n 100 ≡ b → n < 1000 → n ≡ 0
      three true q l = two (ltb n 10) refl (ltb-true n 100 q)
      three false q l =
          let k : 100 ≤ n = ltb-false n 100 q in
          let z : digit (n / 100 % 10) ≡ 48 = rw (lt-ltb n 10000 (omega arith), lt-ltb n 1000 l, q) at e in
          omega arith

      four : (b : Bool) → ltb n 1000 ≡ b → n < 10000 → n ≡ 0
      four true q l = three (ltb n 100) refl (ltb-true n 1000 q)
      four false q l =
          let k : 1000 ≤ n = ltb-false n 1000 q in
          let z : digit (n / 1000 % 10) ≡ 48 = rw (lt-ltb n 10000 l, q) at e in
          omega arith

      five : (b : Bool) → ltb n 10000 ≡ b → n ≡ 0
      five true q = four (ltb n 1000) refl (ltb-true n 10000 q)
      five false q =
          let k : 10000 ≤ n = ltb-false n 10000 q in
          let z : digit (n / 10000 % 10) ≡ 48 = rw q at e in
          omega arith

-- the value of a hex digit
unfoldable pub hex_value : ℕ → ℕ
hex_value c = cond (ltb c 58) (c - 48) (c - 87)

value_back : (d : ℕ) → d < 16 → hex_value (hex_digit d) ≡ d
unfolding hex_value
value_back d h = go (ltb d 10) refl
  where
    go : (b : Bool) → ltb d 10 ≡ b → hex_value (cond b (48 + d) (87 + d)) ≡ d
    go true q = let l : d < 10 = ltb-true d 10 q in rw (lt-ltb (48 + d) 58 (omega arith)) (omega arith)
    go false q = let l : 10 ≤ d = ltb-false d 10 q in rw (le-ltb (87 + d) 58 (omega arith)) (omega arith)

pub hex_back : (n : ℕ) → n < 65536
    → 4096 * hex_value (hex_digit (n / 4096 % 16)) + 256 * hex_value (hex_digit (n / 256 % 16)) + 16 * hex_value (hex_digit (n / 16 % 16)) + hex_value (hex_digit (n % 16)) ≡ n
hex_back n h =
    let one : n / 4096 % 16 ≡ n / 4096 = omega arith in
    let two : 16 * (n / 4096) + n / 256 % 16 ≡ n / 256 = omega arith in
    let three : 16 * (n / 256) + n / 16 % 16 ≡ n / 16 = omega arith in
    let four : 16 * (n / 16) + n % 16 ≡ n = omega arith in
    rw (value_back (n / 4096 % 16) (omega arith), value_back (n / 256 % 16) (omega arith), value_back (n / 16 % 16) (omega arith), value_back (n % 16) (omega arith))
    (omega (arith, one, two, three, four))
