-- How lent bytes are read. A list of numbers does not say that they are bytes, so the definition does.
use Rattle.std.specs.Prelude.{ℕ, ◌+◌, ◌*◌, ◌%◌, List, get_or}

-- the byte at `at`, and 0 past the end
unfoldable pub byte_at : List ℕ → ℕ → ℕ
byte_at s at = get_or s at 0 % 256

-- Numbers are little-endian, two bytes unless said.
unfoldable pub word_at : List ℕ → ℕ → ℕ
word_at s at = byte_at s at + 256 * byte_at s (at + 1)
