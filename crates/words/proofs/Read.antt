-- Laws of reading.
use Prim.Native.Nat.{ℕ, ◌+◌, ◌%◌, ◌<◌, ◌≤◌}
use mathlib.Core.Path.{◌≡◌, ap}
use mathlib.Core.List.{List}
use native.Mathlib.Omega.{arith}
use lib.ListN.{length, get_or, get_or-eq_default}
use Rattle.words.specs.Bytes.{byte_at, word_at}

pub byte_lt : (s : List ℕ) (at : ℕ) → byte_at s at < 256
unfolding byte_at
byte_lt s at = omega arith

pub word_lt : (s : List ℕ) (at : ℕ) → word_at s at < 65536
unfolding word_at
word_lt s at = omega (arith, byte_lt s at, byte_lt s (at + 1))

-- a byte that is one is read as it stands
pub byte_is : (s : List ℕ) (at : ℕ) → get_or s at 0 < 256 → get_or s at 0 ≡ byte_at s at
unfolding byte_at
byte_is s at h = omega arith

pub byte_past : (s : List ℕ) (at : ℕ) → length s ≤ at → byte_at s at ≡ 0
unfolding byte_at
byte_past s at h = ap (λ (x : ℕ). x % 256) (get_or-eq_default s 0 h)

pub word_past : (s : List ℕ) (at : ℕ) → length s ≤ at → word_at s at ≡ 0
unfolding word_at
word_past s at h = omega (arith, byte_past s at h, byte_past s (at + 1) (omega arith))
