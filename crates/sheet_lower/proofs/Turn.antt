-- What the turns of a loop leave that writes a block's effect type by type, and its mark behind it.
use Prim.Native.Nat.{ℕ, zero, suc, ◌+◌, ◌*◌, ◌≤◌, ◌<◌}
use mathlib.Core.Path.{◌≡◌, refl, sym, ap, ◌∙◌}
use mathlib.Core.Bool.{Bool, true, false, cond}
use mathlib.Core.List.{List, ◌++◌, append_assoc}
use lib.ListN.{length, take, drop, length-append, take-append-drop}
use lib.Seq.{take_at, drop_at, drop-drop, drop-append-add, length-take-le, take-append-le}
use native.Mathlib.Omega.{arith}
use Rattle.words.specs.Write.{splice, word_bytes, bytes_of}
use Rattle.words.proofs.Splice.{length_bytes, word_after}
use Rattle.effect_one.specs.declared.One.{One}
use Rattle.effect_one.specs.Formulas.{both_one}
use Rattle.effect.specs.declared.Effect.{Effect}
use Rattle.effect.specs.Six.{one_at}
use Rattle.effect.specs.Whole.{both_of}
use Rattle.effect.proofs.Six.{effect_at_lem}
use Rattle.sheet.specs.Read.{sheet_word, marked, effect_at}
use Rattle.sheet.specs.Inner.{one_words}
use Rattle.sheet.specs.Write.{effect_field, effect_word, effect_bytes}
use Rattle.sheet.proofs.Back.{effect_word_at}
use Rattle.sheet.proofs.Types.{one_read}
use Rattle.sheet_lower.specs.Lowered.{one_bytes, lowered_effect}

-- c written right behind b
pub splice_behind : (s : List ℕ) (a : ℕ) (b c : List ℕ) → a ≤ length s → splice (splice s a b) (a + length b) c ≡ splice s a (b ++ c)
splice_behind s a b c room =
    let p : List ℕ = take a s ++ b in
    let q : List ℕ = drop (a + length b) s in
    let long : length p ≡ a + length b = length-append (take a s) b ∙ ap (λ (n : ℕ). n + length b) (length-take-le a s room) in
    let all : splice s a b ≡ p ++ q = sym (append_assoc (take a s) b q) in
    let front : take (a + length b) (p ++ q) ≡ p = take_at p q (a + length b) long in
    let m : a + length b + length c ≡ length p + length c = omega arith in
    let n : a + length b + length c ≡ a + length (b ++ c) = omega (arith, length-append b c) in
    let back : drop (a + length b + length c) (p ++ q) ≡ drop (a + length (b ++ c)) s
    = ap (λ (j : ℕ). drop j (p ++ q)) m ∙ drop-append-add p q (length c) ∙ drop-drop (length c) (a + length b) s ∙ ap (λ (j : ℕ). drop j s) n in
    ap (λ (l : List ℕ). take (a + length b) l ++ (c ++ drop (a + length b + length c) l)) all
    ∙ (λ i. front i ++ (c ++ back i))
    ∙ append_assoc (take a s) b (c ++ drop (a + length (b ++ c)) s)
    ∙ ap (λ (l : List ℕ). take a s ++ l) (sym (append_assoc b c (drop (a + length (b ++ c)) s)))

-- b written right before c
splice_before : (s : List ℕ) (a : ℕ) (b c : List ℕ) → a + length b ≤ length s → splice (splice s (a + length b) c) a b ≡ splice s a (b ++ c)
splice_before s a b c room =
    let p : List ℕ = take (a + length b) s in
    let q : List ℕ = c ++ drop (a + length b + length c) s in
    let long : length p ≡ a + length b = length-take-le (a + length b) s room in
    let front : take a (p ++ q) ≡ take a s
    = take-append-le a p q (omega arith) ∙ sym (take-append-le a p (drop (a + length b) s) (omega arith)) ∙ ap (take a) (take-append-drop (a + length b) s) in
    let back : drop (a + length b) (p ++ q) ≡ q = drop_at p q (a + length b) long in
    let n : a + length b + length c ≡ a + length (b ++ c) = omega (arith, length-append b c) in
    (λ i. front i ++ (b ++ back i))
    ∙ ap (λ (l : List ℕ). take a s ++ l) (sym (append_assoc b c (drop (a + length b + length c) s)) ∙ ap (λ (j : ℕ). b ++ c ++ drop j s) n)

-- the same, where the places are those
pub splice_next : (s : List ℕ) (a : ℕ) (b c : List ℕ) (j : ℕ) {r q : List ℕ} → a ≤ length s → j ≡ a + length b → r ≡ splice s a b → q ≡ splice r j c
    → q ≡ splice s a (b ++ c)
splice_next s a b c j {r} {q} room e p h = h ∙ (λ i. splice (p i) (e i) c) ∙ splice_behind s a b c room

bytes_first : (f : ℕ → ℕ) (n : ℕ) → bytes_of f (suc n) ≡ word_bytes (f 0) ++ bytes_of (λ i. f (suc i)) n
unfolding bytes_of
bytes_first f zero = refl
bytes_first f (suc n) = ap (λ (l : List ℕ). l ++ word_bytes (f (suc n))) (bytes_first f n) ∙ append_assoc (word_bytes (f 0)) (bytes_of (λ i. f (suc i)) n) (word_bytes (f (suc n)))

module _ (e : Effect) where
  -- the words behind the mark
  abbrev behind : ℕ → ℕ
  behind i = effect_word e (suc i)

  word_of : (k j i : ℕ) → j < 4 → i ≡ j + 4 * k → behind i ≡ effect_field e k j
  word_of k j i l p = ap (effect_word e) (omega arith) ∙ effect_word_at e k j l

  bytes_four : (k : ℕ) → bytes_of behind (4 * (k + 1)) ≡ bytes_of behind (4 * k) ++ one_bytes (one_at e k)
  unfolding bytes_of
  bytes_four k =
      let n : ℕ = 4 * k in
      let m : 4 * (k + 1) ≡ suc (suc (suc (suc n))) = omega arith in
      let a = word_of k 0 n (omega arith) (omega arith) in
      let b = word_of k 1 (suc n) (omega arith) (omega arith) in
      let c = word_of k 2 (suc (suc n)) (omega arith) (omega arith) in
      let d = word_of k 3 (suc (suc (suc n))) (omega arith) (omega arith) in
      ap (bytes_of behind) m
      ∙ (λ i. bytes_of behind n ++ word_bytes (a i) ++ word_bytes (b i) ++ word_bytes (c i) ++ word_bytes (d i))
      ∙ simp append_assoc

  -- s with the first k types of the block at w written
  abbrev pub Laid : List ℕ → ℕ → ℕ → List ℕ → Type 0
  Laid s w k r = r ≡ splice s (2 * (w + 1)) (bytes_of behind (4 * k))

  module _ (s : List ℕ) (w : ℕ) where
    pub none_laid : Laid s w 0 s
    unfolding bytes_of
    none_laid =
        let z : 2 * (w + 1) + 0 ≡ 2 * (w + 1) = omega arith in
        sym (ap (λ (j : ℕ). take (2 * (w + 1)) s ++ drop j s) z ∙ take-append-drop (2 * (w + 1)) s)

    module _ (k : ℕ) {r : List ℕ} (room : 2 * (w + (5 + 4 * k)) ≤ length s) (laid : Laid s w k r) where
      -- one type more
      pub type_more : {q : List ℕ} {x : One} → x ≡ one_at e k → q ≡ splice r (2 * (w + (1 + 4 * k))) (one_bytes x) → Laid s w (k + 1) q
      type_more {q} {x} v h =
          let j : 2 * (w + (1 + 4 * k)) ≡ 2 * (w + 1) + length (bytes_of behind (4 * k)) = omega (arith, length_bytes behind (4 * k)) in
          splice_next s (2 * (w + 1)) (bytes_of behind (4 * k)) (one_bytes (one_at e k)) _ (omega arith) j laid
          (h ∙ (λ i. splice r (2 * (w + (1 + 4 * k))) (one_bytes (v i))))
          ∙ ap (splice s (2 * (w + 1))) (sym (bytes_four k))

      -- the type's own words are still those that stood there
      pub type_left : one_words r w k ≡ one_words s w k
      unfolding one_words
      type_left =
          ap (λ (l : List ℕ). one_words l w k) laid
          ∙ (λ i. record { keepin = at 1 (omega arith) i; keepmax = at 2 (omega arith) i; cap = at 3 (omega arith) i; drop = at 4 (omega arith) i })
        where
          at : (j : ℕ) → 1 ≤ j → sheet_word (splice s (2 * (w + 1)) (bytes_of behind (4 * k))) (w + (j + 4 * k)) ≡ sheet_word s (w + (j + 4 * k))
          at j l = word_after s (w + 1) behind (4 * k) (omega arith) (w + (j + 4 * k)) (omega arith)

    -- and the mark
    pub mark_last : (t k : ℕ) {r q : List ℕ} → 2 * (w + 1) ≤ length s → k ≡ t → Laid s w k r → q ≡ splice r (2 * w) (word_bytes 1)
        → q ≡ splice s (2 * w) (effect_bytes e t)
    unfolding effect_word
    mark_last t k {r} {q} room u laid h =
        let j : 2 * (w + 1) ≡ 2 * w + 2 = omega arith in
        let n : suc (4 * k) ≡ 1 + 4 * t = omega arith in
        h
        ∙ ap (λ (l : List ℕ). splice l (2 * w) (word_bytes 1)) (laid ∙ ap (λ (a : ℕ). splice s a (bytes_of behind (4 * k))) j)
        ∙ splice_before s (2 * w) (word_bytes 1) (bytes_of behind (4 * k)) (omega arith)
        ∙ ap (splice s (2 * w)) (sym (bytes_first (effect_word e) (4 * k)) ∙ ap (bytes_of (effect_word e)) n)

-- what type k gets
pub lowered_at : (s : List ℕ) (t w : ℕ) (e : Effect) (k : ℕ) → k < t → k < 6 → {m : Bool} {x y : One} → m ≡ marked s w → x ≡ one_words s w k → y ≡ one_at e k
    → cond m (both_one x y) y ≡ one_at (lowered_effect s t w e) k
unfolding both_of
lowered_at s t w e k u l {m} {x} {y} p q v = (λ i. cond (p i) (both_one (q i) (v i)) (v i)) ∙ go (marked s w)
  where
    both_at : one_at (both_of (effect_at s t w) e) k ≡ both_one (one_at (effect_at s t w) k) (one_at e k)
    both_at = effect_at_lem (λ j. both_one (one_at (effect_at s t w) j) (one_at e j)) k l

    go : (b : Bool) → cond b (both_one (one_words s w k) (one_at e k)) (one_at e k) ≡ one_at (cond b (both_of (effect_at s t w) e) e) k
    go true = sym (both_at ∙ ap (λ (z : One). both_one z (one_at e k)) (one_read s t w k u l))
    go false = refl
