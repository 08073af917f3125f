-- A block that is written reads back, every word apart from it is as it was, and a blank sheet has no word but 0.
use Prim.Native.Nat.{ℕ, zero, suc, ◌+◌, ◌-◌, ◌*◌, ◌/◌, ◌%◌, ◌≤◌, ◌<◌}
use mathlib.Core.Path.{◌≡◌, refl, sym, ap, ◌∙◌}
use mathlib.Core.Bool.{Bool, true, false, cond}
use mathlib.Core.List.{List}
use mathlib.Core.Logic.{◌⊎◌, ⊎_elim}
use lib.ListN.{length, get_or, replicate, length-replicate, get_or-replicate}
use lib.Dec.{ltb, eqb}
use borrow.Author.Tests.{ltb-true, ltb-false, lt-ltb, le-ltb, ne_eqb}
use native.Mathlib.Omega.{arith}
use Rattle.words.specs.Bytes.{byte_at, word_at}
use Rattle.words.specs.Write.{splice, bytes_of}
use Rattle.words.proofs.Read.{byte_past, word_lt}
use Rattle.words.proofs.Splice.{word_before, word_after, word_written}
use Rattle.sheet_layout.specs.Layout.{stock_size, effect_size}
use Rattle.effect.specs.declared.Stock.{Stock}
use Rattle.effect.specs.declared.Effect.{Effect}
use Rattle.effect.specs.Six.{six}
use Rattle.effect.proofs.Six.{below_six, SixHeld, SixOnes}
use Rattle.sheet.specs.Read.{sheet_word, SameWords, mark_at, column, stock_at, effect_at}
use Rattle.sheet.specs.Write.{stock_field, effect_field, stock_word, effect_word, stock_bytes, effect_bytes, blanked}
use Rattle.sheet.proofs.Same.{six_same}

-- the words from o on, apart from the n words written from w on
pub kept : (s : List ℕ) (w : ℕ) (f : ℕ → ℕ) (n : ℕ) → 2 * (w + n) ≤ length s → (o m : ℕ) → (o + m ≤ w) ⊎ (w + n ≤ o)
    → SameWords (splice s (2 * w) (bytes_of f n)) s o m
kept s w f n fits o m d v l h =
    ⊎_elim (λ b. word_before s w f n fits v (omega arith)) (λ a. word_after s w f n fits v (omega arith)) d

-- one field of the six types: words, and `none` of a type that the file does not have
pub record FieldFits (t none : ℕ) (c : List ℕ) : Type 0 where
  pub words : (k : ℕ) → k < 6 → get_or c k 0 < 65536
  pub rest : (k : ℕ) → t ≤ k → k < 6 → get_or c k 0 ≡ none

-- a stock and an effect of t types that words can hold
pub record StockFits (t : ℕ) (x : Stock) : Type 0 where
  pub six : SixHeld x
  pub rights : FieldFits t 0 x.rights
  pub counts : FieldFits t 0 x.counts

pub record EffectFits (t : ℕ) (e : Effect) : Type 0 where
  pub six : SixOnes e
  pub keepin : FieldFits t 0 e.keepin
  pub keepmax : FieldFits t 65535 e.keepmax
  pub cap : FieldFits t 255 e.cap
  pub drop : FieldFits t 0 e.drop

pub six_at : (f : ℕ → ℕ) (k : ℕ) → k < 6 → get_or (six f) k 0 ≡ f k
six_at f = below_six (λ k. get_or (six f) k 0 ≡ f k) refl refl refl refl refl refl

pub six_there : (f : ℕ → ℕ) (k : ℕ) → k < 6 → {v : ℕ} → v ≡ f k → v ≡ get_or (six f) k 0
six_there f k h e = e ∙ sym (six_at f k h)

-- what is read of each type, and that it fits
module _ (s : List ℕ) (t w : ℕ) where
  read_fits : (n j none : ℕ) → none < 65536 → FieldFits t none (six (column s t w n j none))
  read_fits n j none h =
      record {
        words = λ k l. rw (six_at (column s t w n j none) k l) (small (w + (j + n * k)) (ltb k t));
        rest = λ k u l. six_at (column s t w n j none) k l ∙ ap (λ (b : Bool). cond b (sheet_word s (w + (j + n * k))) none) (le-ltb k t u);
      }
    where
      small : (v : ℕ) (b : Bool) → cond b (sheet_word s v) none < 65536
      small v true = word_lt s (2 * v)
      small v false = h

  pub stock_read : StockFits t (stock_at s t w)
  unfolding stock_at
  stock_read = record { six = refl; rights = read_fits 2 1 0 (omega arith); counts = read_fits 2 2 0 (omega arith) }

  pub effect_read : EffectFits t (effect_at s t w)
  unfolding effect_at
  effect_read =
      record {
        six = refl;
        keepin = read_fits 4 1 0 (omega arith);
        keepmax = read_fits 4 2 65535 (omega arith);
        cap = read_fits 4 3 255 (omega arith);
        drop = read_fits 4 4 0 (omega arith);
      }

  -- the words of a type that the file has are what is read
  column_word : (n j none k : ℕ) → k < t → k < 6 → sheet_word s (w + (j + n * k)) ≡ get_or (six (column s t w n j none)) k 0
  column_word n j none k u l =
      sym (six_at (column s t w n j none) k l ∙ ap (λ (b : Bool). cond b (sheet_word s (w + (j + n * k))) none) (lt-ltb k t u))

  pub stock_word_read : (k : ℕ) → k < t → k < 6 → (j : ℕ) → j < 2 → sheet_word s (w + (1 + j + 2 * k)) ≡ stock_field (stock_at s t w) k j
  unfolding stock_at
  stock_word_read k u l zero h = column_word 2 1 0 k u l
  stock_word_read k u l (suc zero) h = column_word 2 2 0 k u l
  stock_word_read k u l (suc (suc j)) h = absurd (omega arith)

  pub effect_word_read : (k : ℕ) → k < t → k < 6 → (j : ℕ) → j < 4 → sheet_word s (w + (1 + j + 4 * k)) ≡ effect_field (effect_at s t w) k j
  unfolding effect_at
  effect_word_read k u l zero h = column_word 4 1 0 k u l
  effect_word_read k u l (suc zero) h = column_word 4 2 65535 k u l
  effect_word_read k u l (suc (suc zero)) h = column_word 4 3 255 k u l
  effect_word_read k u l (suc (suc (suc zero))) h = column_word 4 4 0 k u l
  effect_word_read k u l (suc (suc (suc (suc j)))) h = absurd (omega arith)

stock_word_at : (x : Stock) (k j : ℕ) → j < 2 → stock_word x (1 + j + 2 * k) ≡ stock_field x k j
unfolding stock_word
stock_word_at x k j l =
    let p : (1 + j + 2 * k - 1) % 2 ≡ j = omega arith in
    let q : (1 + j + 2 * k - 1) / 2 ≡ k = omega arith in
    rw (ne_eqb (1 + j + 2 * k) 0 (λ e. omega arith), p, q)

pub effect_word_at : (e : Effect) (k j : ℕ) → j < 4 → effect_word e (1 + j + 4 * k) ≡ effect_field e k j
unfolding effect_word
effect_word_at e k j l =
    let p : (1 + j + 4 * k - 1) % 4 ≡ j = omega arith in
    let q : (1 + j + 4 * k - 1) / 4 ≡ k = omega arith in
    rw (ne_eqb (1 + j + 4 * k) 0 (λ z. omega arith), p, q)

-- the words of a block that fits are words
cond_lt : (b : Bool) (v w : ℕ) → v < 65536 → w < 65536 → cond b v w < 65536
cond_lt true v w p q = p
cond_lt false v w p q = q

pub stock_words : (t : ℕ) → t ≤ 6 → (x : Stock) → StockFits t x → (k : ℕ) → k < stock_size t → stock_word x k < 65536
unfolding stock_word
stock_words t l x g k u =
    let i = (k - 1) / 2 in
    cond_lt (eqb k 0) 1 _ (omega arith) (cond_lt (eqb ((k - 1) % 2) 0) _ _ (g.rights.words i (omega arith)) (g.counts.words i (omega arith)))

pub effect_words : (t : ℕ) → t ≤ 6 → (e : Effect) → EffectFits t e → (k : ℕ) → k < effect_size t → effect_word e k < 65536
unfolding effect_word
effect_words t l e g k u =
    let i = (k - 1) / 4 in
    let j = (k - 1) % 4 in
    let few : i < 6 = omega arith in
    cond_lt (eqb k 0) 1 _ (omega arith)
    (cond_lt (eqb j 0) _ _ (g.keepin.words i few)
    (cond_lt (eqb j 1) _ _ (g.keepmax.words i few) (cond_lt (eqb j 2) _ _ (g.cap.words i few) (g.drop.words i few))))

-- the m words of f written from word w on
module _ (s : List ℕ) (w : ℕ) (f : ℕ → ℕ) (m : ℕ) (fits : 2 * (w + m) ≤ length s) where
  marked_first : 0 < m → f 0 ≡ 1 → sheet_word (splice s (2 * w) (bytes_of f m)) w ≡ 1
  marked_first l h =
      let e : w ≡ w + 0 = omega arith in
      ap (sheet_word (splice s (2 * w) (bytes_of f m))) e ∙ word_written s w f m fits 0 l (omega arith) ∙ h

  -- a field that was written as word j of type 0, and n further on of each further type
  column_back : (t n j none : ℕ) (c : List ℕ) → ((k : ℕ) → k < t → j + n * k < m) → ((k : ℕ) → f (j + n * k) ≡ get_or c k 0) → FieldFits t none c
      → six (column (splice s (2 * w) (bytes_of f m)) t w n j none) ≡ six (λ k. get_or c k 0)
  column_back t n j none c inside is g = six_same (λ k l. at k l (ltb k t) refl)
    where
      at : (k : ℕ) → k < 6 → (b : Bool) → ltb k t ≡ b → cond b (sheet_word (splice s (2 * w) (bytes_of f m)) (w + (j + n * k))) none ≡ get_or c k 0
      at k l false q = sym (g.rest k (ltb-false k t q) l)
      at k l true q = word_written s w f m fits (j + n * k) (inside k (ltb-true k t q)) (rw (is k) (g.words k l)) ∙ is k

module _ (s : List ℕ) (t w : ℕ) (x : Stock) (fits : 2 * (w + stock_size t) ≤ length s) where
  pub stock_marked : mark_at (splice s (2 * w) (stock_bytes x t)) w ≡ 1
  unfolding stock_word
  stock_marked = marked_first s w (stock_word x) (stock_size t) fits (omega arith) refl

  pub stock_back : StockFits t x → stock_at (splice s (2 * w) (stock_bytes x t)) t w ≡ x
  unfolding stock_at
  stock_back g =
      let a = column_back s w (stock_word x) (stock_size t) fits t 2 1 0 x.rights (λ k l. omega arith) (λ k. stock_word_at x k 0 (omega arith)) g.rights in
      let b = column_back s w (stock_word x) (stock_size t) fits t 2 2 0 x.counts (λ k l. omega arith) (λ k. stock_word_at x k 1 (omega arith)) g.counts in
      (λ i. record { rights = a i; counts = b i }) ∙ g.six

module _ (s : List ℕ) (t w : ℕ) (e : Effect) (fits : 2 * (w + effect_size t) ≤ length s) where
  pub effect_marked : mark_at (splice s (2 * w) (effect_bytes e t)) w ≡ 1
  unfolding effect_word
  effect_marked = marked_first s w (effect_word e) (effect_size t) fits (omega arith) refl

  pub effect_back : EffectFits t e → effect_at (splice s (2 * w) (effect_bytes e t)) t w ≡ e
  unfolding effect_at
  effect_back g =
      let a = column_back s w (effect_word e) (effect_size t) fits t 4 1 0 e.keepin (λ k l. omega arith) (λ k. effect_word_at e k 0 (omega arith)) g.keepin in
      let b = column_back s w (effect_word e) (effect_size t) fits t 4 2 65535 e.keepmax (λ k l. omega arith) (λ k. effect_word_at e k 1 (omega arith)) g.keepmax in
      let c = column_back s w (effect_word e) (effect_size t) fits t 4 3 255 e.cap (λ k l. omega arith) (λ k. effect_word_at e k 2 (omega arith)) g.cap in
      let d = column_back s w (effect_word e) (effect_size t) fits t 4 4 0 e.drop (λ k l. omega arith) (λ k. effect_word_at e k 3 (omega arith)) g.drop in
      (λ i. record { keepin = a i; keepmax = b i; cap = c i; drop = d i }) ∙ g.six

-- a blank sheet
pub blank_length : (s : List ℕ) → length (blanked s) ≡ length s
blank_length s = length-replicate (length s) 0

blank_byte : (n i : ℕ) → byte_at (replicate n 0) i ≡ 0
unfolding byte_at
blank_byte n i = go (ltb i n) refl
  where
    go : (b : Bool) → ltb i n ≡ b → byte_at (replicate n 0) i ≡ 0
    go true q = ap (λ (x : ℕ). x % 256) (get_or-replicate n i 0 0 (ltb-true i n q))
    go false q = byte_past (replicate n 0) i (rw length-replicate (ltb-false i n q))

pub blank_word : (s : List ℕ) (v : ℕ) → sheet_word (blanked s) v ≡ 0
unfolding word_at
blank_word s v = omega (arith, blank_byte (length s) (2 * v), blank_byte (length s) (2 * v + 1))
