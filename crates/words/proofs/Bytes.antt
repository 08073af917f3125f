-- A list of bytes stays one where bytes are put into it, and the bytes of words are such.
use Prim.Native.Nat.{ℕ, zero, suc, ◌+◌, ◌<◌}
use mathlib.Core.List.{List, [], ◌∷◌, ◌++◌}
use lib.ListN.{length, get_or, take, drop, replicate, length-take, get_or-eq_default}
use lib.Seq.{get_or-take, get_or-drop}
use native.Mathlib.Decide.{dec_lt}
use native.Mathlib.Omega.{arith}
use Rattle.words.specs.Write.{splice, word_bytes, bytes_of}

abbrev pub Bytes : List ℕ → Type 0
Bytes l = (i : ℕ) → get_or l i 0 < 256

append_bytes : (a b : List ℕ) → Bytes a → Bytes b → Bytes (a ++ b)
append_bytes [] b p q i = q i
append_bytes (c ∷ a) b p q zero = p zero
append_bytes (c ∷ a) b p q (suc i) = append_bytes a b (λ j. p (suc j)) q i

take_bytes : (n : ℕ) (l : List ℕ) → Bytes l → Bytes (take n l)
take_bytes n l p i = elim (dec_lt i n) [
  | yes h ↦ rw (get_or-take n l i 0 h) (p i)
  | no h ↦ rw (get_or-eq_default (take n l) 0 {n = i} (simp length-take (omega arith))) (omega arith)
]

drop_bytes : (n : ℕ) (l : List ℕ) → Bytes l → Bytes (drop n l)
drop_bytes n l p i = rw (get_or-drop n l i 0) (p (n + i))

pub splice_bytes : (s : List ℕ) (a : ℕ) (b : List ℕ) → Bytes s → Bytes b → Bytes (splice s a b)
splice_bytes s a b p q =
    append_bytes (take a s) (b ++ drop (a + length b) s) (take_bytes a s p)
    (append_bytes b (drop (a + length b) s) q (drop_bytes (a + length b) s p))

pub blank_bytes : (n : ℕ) → Bytes (replicate n 0)
blank_bytes zero i = omega arith
blank_bytes (suc n) zero = omega arith
blank_bytes (suc n) (suc i) = blank_bytes n i

-- the bytes of words
word_bytes_lem : (v : ℕ) → v < 65536 → Bytes (word_bytes v)
word_bytes_lem v h zero = omega arith
word_bytes_lem v h (suc zero) = omega arith
word_bytes_lem v h (suc (suc i)) = omega arith

pub words_bytes : (g : ℕ → ℕ) (n : ℕ) → ((k : ℕ) → k < n → g k < 65536) → Bytes (bytes_of g n)
unfolding bytes_of
words_bytes g zero h i = omega arith
words_bytes g (suc n) h i =
    append_bytes (bytes_of g n) (word_bytes (g n)) (words_bytes g n (λ k l. h k (omega arith))) (word_bytes_lem (g n) (h n (omega arith))) i
