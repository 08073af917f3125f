-- Texts in which no byte is 0, so that a 0 behind them marks their end.
use Prim.Native.Nat.{ℕ, zero, suc, ◌+◌, ◌/◌, ◌%◌, ◌<◌}
use mathlib.Core.Path.{◌≡◌, refl}
use mathlib.Core.Bool.{Bool, true, false, cond, ◌&&◌}
use mathlib.Core.List.{List, [], ◌∷◌, ◌++◌}
use lib.ListN.{length, get_or}
use lib.Dec.{ltb}
use borrow.Author.Tests.{ltb-true}
use native.Mathlib.Nat.{not-suc-le-zero, le_of_suc-le-suc}
use native.Mathlib.Omega.{arith}
use Rattle.words_digits.specs.Text.{joined}
use Rattle.words_digits.specs.Digits.{digit, place_text, decimal, hex_digit, four_hex}

pub data Shown : List ℕ → Type 0 where
  none : Shown []
  more : {b : ℕ} {l : List ℕ} → 0 < b → Shown l → Shown (b ∷ l)

pub shown_at : {l : List ℕ} → Shown l → (i : ℕ) → i < length l → 0 < get_or l i 0
shown_at none i h = absurd (not-suc-le-zero h)
shown_at (more p s) zero h = p
shown_at (more p s) (suc i) h = shown_at s i (le_of_suc-le-suc h)

-- of a given text it is a computed test
unfoldable pub is_shown : List ℕ → Bool
is_shown [] = true
is_shown (b ∷ l) = ltb 0 b && is_shown l

pub shown : (l : List ℕ) → is_shown l ≡ true → Shown l
unfolding is_shown
shown [] h = none
shown (b ∷ l) h = go (ltb 0 b) refl h (shown l)
  where
    go : (c : Bool) → ltb 0 b ≡ c → (c && is_shown l) ≡ true → (is_shown l ≡ true → Shown l) → Shown (b ∷ l)
    go true e h rest = more (ltb-true 0 b e) (rest h)
    go false e h rest = let z : ◌≡◌ {A = ℕ} 0 1 = cc in absurd (omega arith)

infixl 60 ◌and◌
pub ◌and◌ : {a b : List ℕ} → Shown a → Shown b → Shown (a ++ b)
◌and◌ none t = t
◌and◌ (more p s) t = more p (s and t)

pub shown_joined : (text : ℕ → List ℕ) → ((k : ℕ) → Shown (text k)) → (n : ℕ) → Shown (joined text n)
unfolding joined
shown_joined text s zero = none
shown_joined text s (suc n) = shown_joined text s n and s n

shown_place : (p n : ℕ) → Shown (place_text p n)
unfolding place_text
shown_place p n = go (ltb n p)
  where
    go : (b : Bool) → Shown (cond b [] (digit (n / p % 10) ∷ []))
    go true = none
    go false = more {b = digit (n / p % 10)} (omega arith) none

pub shown_decimal : (n : ℕ) → Shown (decimal n)
unfolding decimal
shown_decimal n = shown_place 10000 n and shown_place 1000 n and shown_place 100 n and shown_place 10 n and more {b = digit (n % 10)} (omega arith) none

shown_hex_digit : (d : ℕ) → 0 < hex_digit d
shown_hex_digit d = go (ltb d 10)
  where
    go : (b : Bool) → 0 < cond b (48 + d) (87 + d)
    go true = omega arith
    go false = omega arith

pub shown_hex : (n : ℕ) → Shown (four_hex n)
shown_hex n =
    more (shown_hex_digit (n / 4096 % 16))
    (more (shown_hex_digit (n / 256 % 16))
    (more (shown_hex_digit (n / 16 % 16))
    (more (shown_hex_digit (n % 16)) none)))
