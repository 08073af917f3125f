-- Four words that stand one after the other, as one number.
use Rattle.std.specs.Prelude.{ℕ, ◌+◌, ◌*◌, List}
use Rattle.words.specs.Bytes.{word_at}

unfoldable pub four_at : List ℕ → ℕ → ℕ
four_at s at = word_at s at + 65536 * word_at s (at + 2) + 4294967296 * (word_at s (at + 4) + 65536 * word_at s (at + 6))
