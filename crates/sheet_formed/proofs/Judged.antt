-- What it says of a block that it is not ill formed.
use Prim.Native.Nat.{ℕ, ◌+◌, ◌-◌, ◌≤◌, ◌<◌}
use mathlib.Core.Path.{◌≡◌, refl, sym, ap}
use mathlib.Core.Bool.{Bool, true, false, cond, not, true≢false}
use mathlib.Core.List.{List}
use lib.Dec.{ltb, leb, eqb}
use lib.ListN.{get_or}
use borrow.Author.Tests.{leb-true, eqb-true, not-false}
use native.Mathlib.Omega.{arith}
use Rattle.words.proofs.Lowest.{none_found, lowest_same, is_lowest}
use Rattle.sheet_layout.specs.declared.Shape.{Shape}
use Rattle.sheet_layout.specs.Layout.{stock_size, effect_size, is_stock, block_count, block_size, block_at}
use Rattle.sheet_layout.proofs.Blocks.{size_pos}
use Rattle.effect.specs.declared.Stock.{Stock}
use Rattle.effect.specs.Whole.{normal_of}
use Rattle.effect.proofs.Six.{all_e}
use Rattle.sheet.specs.Read.{sheet_word, SameWords, mark_at, stock_at, effect_at}
use Rattle.sheet_formed.specs.Ill.{not_zero, some_word, counts_fit, fits, ill_by, ill_block, first_ill}
use Rattle.sheet_formed.proofs.Scan.{some_none, zero_there}
use Rattle.sheet.proofs.Same.{mark_same, stock_same, effect_same}

-- the n words from w on are 0
abbrev pub AllZero : List ℕ → ℕ → ℕ → Type 0
AllZero s w n = (v : ℕ) → w ≤ v → v < w + n → sheet_word s v ≡ 0

pub all_zero : (s : List ℕ) (w n : ℕ) → some_word s w n ≡ false → AllZero s w n
unfolding some_word
all_zero s w n h v l u =
    let e : w + (v - w) ≡ v = omega arith in
    let z = none_found (not_zero s w) n h (v - w) (omega arith) in
    rw e at (eqb-true (sheet_word s (w + (v - w))) 0 (not-false _ z))

pub no_word : (s : List ℕ) (w n : ℕ) → AllZero s w n → some_word s w n ≡ false
no_word s w n h = sym (some_none s w n n (λ k l. zero_there s w k (h (w + k) (omega arith) (omega arith))) (omega arith))

-- what the mark m asks for
record By (m : ℕ) (some fit : Bool) : Type 0 where
  a_mark : m ≤ 1
  unmarked : m ≡ 0 → some ≡ false
  marked : m ≡ 1 → fit ≡ true

zero_one : {m : ℕ} → m ≡ 0 → m ≡ 1 → ⊥
zero_one e h = omega arith

by : (m : ℕ) (some fit : Bool) → ill_by m some fit ≡ false → By m some fit
by m some fit = go (eqb m 0) refl (eqb m 1) refl
  where
    go : (a : Bool) → eqb m 0 ≡ a → (b : Bool) → eqb m 1 ≡ b → cond a some (cond b (not fit) true) ≡ false → By m some fit
    go true p b q h =
        let e : m ≡ 0 = eqb-true m 0 p in
        record { a_mark = omega arith; unmarked = λ z. h; marked = λ z. absurd (zero_one e z) }
    go false p true q h =
        let e : m ≡ 1 = eqb-true m 1 q in
        record { a_mark = omega arith; unmarked = λ z. absurd (zero_one z e); marked = λ z. not-false fit h }
    go false p false q h = absurd (true≢false h)

-- no count that fits is above 255
pub counts_le : (x : Stock) → counts_fit x ≡ true → (k : ℕ) → k < 6 → get_or x.counts k 0 ≤ 255
unfolding counts_fit
counts_le x h k l = leb-true (get_or x.counts k 0) 255 (all_e (λ (i : ℕ). leb (get_or x.counts i 0) 255) h k l)

-- a block that is well formed
pub record Formed (s : List ℕ) (x : Shape) (b : ℕ) : Type 0 where
  pub a_mark : mark_at s (block_at x b) ≤ 1
  pub blank : mark_at s (block_at x b) ≡ 0 → AllZero s (block_at x b) (block_size x b)
  pub counts : is_stock x b ≡ true → mark_at s (block_at x b) ≡ 1 → counts_fit (stock_at s x.types (block_at x b)) ≡ true
  pub normal : is_stock x b ≡ false → mark_at s (block_at x b) ≡ 1 → normal_of (effect_at s x.types (block_at x b)) ≡ true

module _ (s : List ℕ) (x : Shape) (b : ℕ) where
  pub formed : ill_block s x b ≡ false → Formed s x b
  unfolding ill_block
  formed h =
      let g : By (mark_at s (block_at x b)) (some_word s (block_at x b) (block_size x b)) (fits s x.types (block_at x b) (is_stock x b)) = by _ _ _ h in
      record {
        a_mark = g.a_mark;
        blank = λ m. all_zero s (block_at x b) (block_size x b) (g.unmarked m);
        counts = λ q m. rw q at (g.marked m);
        normal = λ q m. rw q at (g.marked m);
      }

  -- a blank block is not ill formed, and a marked one is not whose counts fit or whose effect is normal
  pub blank_formed : AllZero s (block_at x b) (block_size x b) → 0 < block_size x b → ill_block s x b ≡ false
  unfolding ill_block
  blank_formed h l =
      rw (h (block_at x b) (omega arith) (omega arith)) (no_word s (block_at x b) (block_size x b) h)

  pub stock_formed : is_stock x b ≡ true → mark_at s (block_at x b) ≡ 1 → counts_fit (stock_at s x.types (block_at x b)) ≡ true → ill_block s x b ≡ false
  unfolding ill_block
  stock_formed q m h = rw (m, q, h)

  pub effect_formed : is_stock x b ≡ false → mark_at s (block_at x b) ≡ 1 → normal_of (effect_at s x.types (block_at x b)) ≡ true → ill_block s x b ≡ false
  unfolding ill_block
  effect_formed q m h = rw (m, q, h)

some_same : (s r : List ℕ) (w n : ℕ) → SameWords s r w n → some_word s w n ≡ some_word r w n
unfolding some_word
some_same s r w n h =
    ap (λ (k : ℕ). ltb k n) (lowest_same (not_zero s w) (not_zero r w) n (λ k l. ap (λ (v : ℕ). not (eqb v 0)) (h (w + k) (omega arith) (omega arith))))

fits_same : (s r : List ℕ) (t w : ℕ) (c : Bool) → SameWords s r w (cond c (stock_size t) (effect_size t)) → fits s t w c ≡ fits r t w c
fits_same s r t w true h = ap counts_fit (stock_same s r w t h)
fits_same s r t w false h = ap normal_of (effect_same s r w t h)

-- a block with the same words is judged the same
pub ill_same : (s r : List ℕ) (x : Shape) (b : ℕ) → SameWords s r (block_at x b) (block_size x b) → ill_block s x b ≡ ill_block r x b
unfolding ill_block block_size
ill_same s r x b h =
    let m = mark_same s r (block_at x b) (size_pos x b) h in
    let a = some_same s r (block_at x b) (block_size x b) h in
    let c = fits_same s r x.types (block_at x b) (is_stock x b) h in
    λ i. ill_by (m i) (a i) (c i)

-- every block of a sheet with no ill-formed one
pub block_formed : (x : Shape) (s : List ℕ) → first_ill s x ≡ block_count x → (b : ℕ) → b < block_count x → Formed s x b
block_formed x s whole b l = formed s x b ((is_lowest (ill_block s x) (block_count x)).before b (omega (arith, whole)))
