-- What is written into lent bytes.
use Rattle.std.specs.Prelude.{ℕ, zero, suc, ◌+◌, ◌/◌, ◌%◌, List, [], ◌∷◌, ◌++◌, length, take, drop}

-- s with the elements b in the place of those from a on
abbrev pub splice : List ℕ → ℕ → List ℕ → List ℕ
splice s a b = take a s ++ (b ++ drop (a + length b) s)

-- a word's two bytes, low byte first
abbrev pub word_bytes : ℕ → List ℕ
word_bytes v = v % 256 ∷ v / 256 ∷ []

-- the bytes of the words f 0 to f (n - 1)
unfoldable pub bytes_of : (ℕ → ℕ) → ℕ → List ℕ
bytes_of f zero = []
bytes_of f (suc n) = bytes_of f n ++ word_bytes (f n)
