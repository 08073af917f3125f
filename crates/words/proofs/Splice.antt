-- A list with a part replaced: the part is what was put there, the rest is as it was, and so are its words.
use Prim.Native.Nat.{ℕ, zero, suc, ◌+◌, ◌-◌, ◌*◌, ◌/◌, ◌%◌, ◌≤◌, ◌<◌}
use mathlib.Core.Path.{◌≡◌, refl, sym, ap, ◌∙◌}
use mathlib.Core.Bool.{Bool, true, false}
use mathlib.Core.List.{List, ◌++◌, append_assoc}
use lib.ListN.{length, get_or, take, drop, set, length-append, length-take, length-drop, get_or-append}
use lib.Seq.{length-take-le, get_or-take, get_or-drop, get_or-append-add, sets-eq}
use lib.Dec.{ltb}
use borrow.Author.Tests.{ltb-true, ltb-false}
use borrow.Rule.Slice.PartMut.{put_mid, Post-is}
use native.Mathlib.Nat.{not-suc-le-zero, le_refl}
use native.Mathlib.Numerals.{add-one}
use native.Mathlib.Omega.{arith}
use Rattle.words.specs.Bytes.{byte_at, word_at}
use Rattle.words.specs.Write.{splice, word_bytes, bytes_of}

-- what a part lent as `&mut s[a..e]` leaves of the whole
pub lent_back : (a e : ℕ) (s b : List ℕ) → a ≤ e → length b ≡ e - a → put_mid a (e - a) s b ≡ splice s a b
lent_back a e s b h l =
    let q : e ≡ a + length b = omega arith in
    ap (λ (z : List ℕ). take a s ++ (b ++ z)) (Post-is a e s h ∙ ap (λ (n : ℕ). drop n s) q)

-- what the stores of a word's bytes leave
pub stored_word : (p : List ℕ) (a v : ℕ) → a + 2 ≤ length p → set (set p a (v % 256)) (a + 1) (v / 256) ≡ splice p a (word_bytes v)
stored_word p a v h = rw add-one (sets-eq (word_bytes v) p a h ∙ append_assoc (take a p) (word_bytes v) (drop (a + 2) p))

module _ (s : List ℕ) (a : ℕ) (b : List ℕ) (fits : a + length b ≤ length s) where
  pub length_splice : length (splice s a b) ≡ length s
  length_splice = simp (length-append, length-take, length-drop) (omega arith)

  front : length (take a s) ≡ a
  front = length-take-le a s (omega arith)

  at_before : (j : ℕ) → j < a → get_or (splice s a b) j 0 ≡ get_or s j 0
  at_before j h =
      let l : j < length (take a s) = rw front h in
      get_or-append (take a s) (b ++ drop (a + length b) s) 0 j l ∙ get_or-take a s j 0 h

  at_part : (j : ℕ) → j < length b → get_or (splice s a b) (a + j) 0 ≡ get_or b j 0
  at_part j h =
      let d : List ℕ = drop (a + length b) s in
      let e : a + j ≡ length (take a s) + j = omega (arith, front) in
      ap (λ (n : ℕ). get_or (splice s a b) n 0) e ∙ get_or-append-add (take a s) (b ++ d) j 0 ∙ get_or-append b d 0 j h

  at_after : (j : ℕ) → a + length b ≤ j → get_or (splice s a b) j 0 ≡ get_or s j 0
  at_after j h =
      let d : List ℕ = drop (a + length b) s in
      let m : ℕ = j - (a + length b) in
      let w : length (take a s ++ b) ≡ a + length b = simp (length-append, front) in
      let e : length (take a s ++ b) + m ≡ j = omega arith in
      let e' : a + length b + m ≡ j = omega arith in
      ap (λ (l : List ℕ). get_or l j 0) (sym (append_assoc (take a s) b d))
      ∙ ap (λ (n : ℕ). get_or (take a s ++ b ++ d) n 0) (sym e)
      ∙ get_or-append-add (take a s ++ b) d m 0
      ∙ get_or-drop (a + length b) s m 0
      ∙ ap (λ (n : ℕ). get_or s n 0) e'

-- the bytes of words
pub length_bytes : (f : ℕ → ℕ) (n : ℕ) → length (bytes_of f n) ≡ 2 * n
unfolding bytes_of
length_bytes f zero = refl
length_bytes f (suc n) =
    let ih : length (bytes_of f n) ≡ 2 * n = length_bytes f n in
    simp length-append (omega arith)

-- words that agree below n have the same bytes
pub bytes_same : (f g : ℕ → ℕ) (n : ℕ) → ((k : ℕ) → k < n → f k ≡ g k) → bytes_of f n ≡ bytes_of g n
unfolding bytes_of
bytes_same f g zero h = refl
bytes_same f g (suc n) h =
    let a : bytes_of f n ≡ bytes_of g n = bytes_same f g n (λ k l. h k (omega arith)) in
    let b : f n ≡ g n = h n (le_refl (suc n)) in
    λ i. a i ++ word_bytes (b i)

byte_back : (f : ℕ → ℕ) (n k j : ℕ) → k < n → j < 2 → get_or (bytes_of f n) (2 * k + j) 0 ≡ get_or (word_bytes (f k)) j 0
unfolding bytes_of
byte_back f zero k j h l = absurd (not-suc-le-zero h)
byte_back f (suc n) k j h l = go (ltb k n) refl (byte_back f n k j)
  where
    long : length (bytes_of f n) ≡ 2 * n
    long = length_bytes f n

    go : (b : Bool) → ltb k n ≡ b → (k < n → j < 2 → get_or (bytes_of f n) (2 * k + j) 0 ≡ get_or (word_bytes (f k)) j 0)
        → get_or (bytes_of f (suc n)) (2 * k + j) 0 ≡ get_or (word_bytes (f k)) j 0
    go true q ih =
        let u : k < n = ltb-true k n q in
        get_or-append (bytes_of f n) (word_bytes (f n)) 0 (2 * k + j) (omega (arith, long)) ∙ ih u l
    go false q ih =
        let w : n ≤ k = ltb-false k n q in
        let e : k ≡ n = omega arith in
        let m : 2 * k + j ≡ length (bytes_of f n) + j = omega (arith, long) in
        ap (λ (i : ℕ). get_or (bytes_of f n ++ word_bytes (f n)) i 0) m
        ∙ get_or-append-add (bytes_of f n) (word_bytes (f n)) j 0
        ∙ ap (λ (i : ℕ). get_or (word_bytes (f i)) j 0) (sym e)

-- the n words of f written from word w on
module _ (s : List ℕ) (w : ℕ) (f : ℕ → ℕ) (n : ℕ) (fits : 2 * (w + n) ≤ length s) where
  long : length (bytes_of f n) ≡ 2 * n
  long = length_bytes f n

  room : 2 * w + length (bytes_of f n) ≤ length s
  room = omega (arith, long)

  pub written_length : length (splice s (2 * w) (bytes_of f n)) ≡ length s
  written_length = length_splice s (2 * w) (bytes_of f n) room

  word_by : (v : ℕ) → ((j : ℕ) → j < 2 → get_or (splice s (2 * w) (bytes_of f n)) (2 * v + j) 0 ≡ get_or s (2 * v + j) 0)
      → word_at (splice s (2 * w) (bytes_of f n)) (2 * v) ≡ word_at s (2 * v)
  unfolding word_at byte_at
  word_by v same =
      let z : 2 * v + 0 ≡ 2 * v = omega arith in
      let lo : get_or (splice s (2 * w) (bytes_of f n)) (2 * v) 0 ≡ get_or s (2 * v) 0 = rw z at (same 0 (omega arith)) in
      let hi : get_or (splice s (2 * w) (bytes_of f n)) (2 * v + 1) 0 ≡ get_or s (2 * v + 1) 0 = same 1 (omega arith) in
      λ i. lo i % 256 + 256 * (hi i % 256)

  -- words before and after are as they were
  pub word_before : (v : ℕ) → v < w → word_at (splice s (2 * w) (bytes_of f n)) (2 * v) ≡ word_at s (2 * v)
  word_before v h = word_by v (λ j l. at_before s (2 * w) (bytes_of f n) room (2 * v + j) (omega arith))

  pub word_after : (v : ℕ) → w + n ≤ v → word_at (splice s (2 * w) (bytes_of f n)) (2 * v) ≡ word_at s (2 * v)
  word_after v h = word_by v (λ j l. at_after s (2 * w) (bytes_of f n) room (2 * v + j) (omega (arith, long)))

  -- and the words written are there
  pub word_written : (k : ℕ) → k < n → f k < 65536 → word_at (splice s (2 * w) (bytes_of f n)) (2 * (w + k)) ≡ f k
  unfolding word_at byte_at
  word_written k h l =
      let at : (j : ℕ) → j < 2 → get_or (splice s (2 * w) (bytes_of f n)) (2 * w + (2 * k + j)) 0 ≡ get_or (word_bytes (f k)) j 0
      = λ j u. at_part s (2 * w) (bytes_of f n) room (2 * k + j) (omega (arith, long)) ∙ byte_back f n k j h u in
      let y : 2 * w + (2 * k + 0) ≡ 2 * (w + k) = omega arith in
      let z : 2 * w + (2 * k + 1) ≡ 2 * (w + k) + 1 = omega arith in
      let lo : get_or (splice s (2 * w) (bytes_of f n)) (2 * (w + k)) 0 ≡ f k % 256 = rw y at (at 0 (omega arith)) in
      let hi : get_or (splice s (2 * w) (bytes_of f n)) (2 * (w + k) + 1) 0 ≡ f k / 256 = rw z at (at 1 (omega arith)) in
      omega arith
