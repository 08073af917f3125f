-- A stock as numbers that stand alone: each right of each type, and each type's count.
use Rattle.std.specs.Prelude.{ℕ, ◌/◌, ◌%◌, ◌^◌, ◌≤◌, ◌<◌, get_or}
use Rattle.effect_number.specs.Number.{counted}
use Rattle.effect.specs.declared.Stock.{Stock}

-- bit b of n
unfoldable pub bit : ℕ → ℕ → ℕ
bit b n = n / 2 ^ b % 2

-- the rights p are within the rights q, bit by bit
abbrev pub RightsWithin : ℕ → ℕ → Type 0
RightsWithin p q = (b : ℕ) → bit b p ≤ bit b q

pub data Coordinate : Type 0 where
  right : (k b : ℕ) → k < 6 → b < 16 → Coordinate
  count : (k : ℕ) → k < 6 → Coordinate

-- the type that it belongs to
abbrev pub type_of : Coordinate → ℕ
type_of (right k _ _ _) = k
type_of (count k _) = k

unfoldable pub at : Coordinate → Stock → ℕ
at (right k b _ _) s = bit b (get_or s.rights k 0)
at (count k _) s = counted (get_or s.counts k 0)
