-- A number that falls where one block of the sheet falls and the others stay.
use Prim.Native.Nat.{ℕ, zero, suc, ◌+◌, ◌*◌, ◌≤◌, ◌<◌}
use mathlib.Core.Path.{◌≡◌, refl}
use mathlib.Core.Bool.{Bool, true, false}
use mathlib.Core.List.{List}
use mathlib.Core.Logic.{inl, inr}
use lib.ListN.{length}
use lib.Dec.{ltb}
use borrow.Author.Tests.{ltb-true, ltb-false}
use native.Mathlib.Nat.{not-suc-le-zero}
use native.Mathlib.Omega.{arith}
use Rattle.sheet_layout.specs.declared.Shape.{Shape}
use Rattle.sheet_layout.specs.Layout.{sheet_bytes, block_count, block_size, block_at}
use Rattle.sheet_layout.proofs.Blocks.{apart, inside}
use Rattle.words.specs.Write.{splice, bytes_of}
use Rattle.sheet.proofs.Back.{kept}
use Rattle.sheet.specs.Read.{SameWords}

unfoldable pub sum_to : (ℕ → ℕ) → ℕ → ℕ
sum_to f zero = 0
sum_to f (suc n) = sum_to f n + f n

pub sum_same : (f g : ℕ → ℕ) (n : ℕ) → ((k : ℕ) → k < n → f k ≡ g k) → sum_to f n ≡ sum_to g n
unfolding sum_to
sum_same f g zero h = refl
sum_same f g (suc n) h =
    let a : sum_to f n ≡ sum_to g n = sum_same f g n (λ k l. h k (omega arith)) in
    let b : f n ≡ g n = h n (omega arith) in
    omega arith

-- g is f but at j, where it is less
pub sum_less : (f g : ℕ → ℕ) (n j : ℕ) → j < n → ((k : ℕ) → k < n → (k ≡ j → ⊥) → g k ≡ f k) → g j < f j → sum_to g n < sum_to f n
unfolding sum_to
sum_less f g zero j l h d = absurd (not-suc-le-zero l)
sum_less f g (suc n) j l h d = go (ltb j n) refl (sum_less f g n j)
  where
    go : (b : Bool) → ltb j n ≡ b → (j < n → ((k : ℕ) → k < n → (k ≡ j → ⊥) → g k ≡ f k) → g j < f j → sum_to g n < sum_to f n)
        → sum_to g (suc n) < sum_to f (suc n)
    go true q ih =
        let u : j < n = ltb-true j n q in
        let a : sum_to g n < sum_to f n = ih u (λ k w ne. h k (omega arith) ne) d in
        let b : g n ≡ f n = h n (omega arith) (λ e. omega arith) in
        omega arith
    go false q ih =
        let w : n ≤ j = ltb-false j n q in
        let s : j ≡ n = omega arith in
        let a : sum_to g n ≡ sum_to f n = sum_same g f n (λ k v. h k (omega arith) (λ e. omega arith)) in
        let b : g n < f n = rw s at d in
        omega arith

-- the words f written into block b of a sheet
module _ (x : Shape) (s : List ℕ) (long : length s ≡ sheet_bytes x) (b : ℕ) (l : b < block_count x) (f : ℕ → ℕ) where
  pub block_fits : 2 * (block_at x b + block_size x b) ≤ length s
  unfolding sheet_bytes
  block_fits = omega (arith, inside x b l)

  -- every other block is as it was
  pub other_block : (c : ℕ) → (c ≡ b → ⊥) → SameWords (splice s (2 * block_at x b) (bytes_of f (block_size x b))) s (block_at x c) (block_size x c)
  other_block c ne = go (ltb c b) refl
    where
      go : (q : Bool) → ltb c b ≡ q → SameWords (splice s (2 * block_at x b) (bytes_of f (block_size x b))) s (block_at x c) (block_size x c)
      go true q = kept s (block_at x b) f (block_size x b) block_fits (block_at x c) (block_size x c) (inl (apart x c b (ltb-true c b q)))
      go false q =
          let u : b ≤ c = ltb-false c b q in
          kept s (block_at x b) f (block_size x b) block_fits (block_at x c) (block_size x c) (inr (apart x b c (omega arith)))

-- the sum of the blocks' numbers
abbrev pub potential : (ℕ → List ℕ → ℕ) → Shape → List ℕ → ℕ
potential rank x s = sum_to (λ (b : ℕ). rank b s) (block_count x)

-- `rank b s` is a number of the words of block b alone
pub sheet_falls : (rank : ℕ → List ℕ → ℕ) (x : Shape)
    → ((b : ℕ) (s r : List ℕ) → SameWords s r (block_at x b) (block_size x b) → rank b s ≡ rank b r)
    → (s : List ℕ) → length s ≡ sheet_bytes x → (b : ℕ) → b < block_count x → (f : ℕ → ℕ)
    → rank b (splice s (2 * block_at x b) (bytes_of f (block_size x b))) < rank b s
    → potential rank x (splice s (2 * block_at x b) (bytes_of f (block_size x b))) < potential rank x s
sheet_falls rank x local s long b l f d =
    sum_less (λ (c : ℕ). rank c s) (λ (c : ℕ). rank c (splice s (2 * block_at x b) (bytes_of f (block_size x b)))) (block_count x) b l
    (λ c u ne. local c (splice s (2 * block_at x b) (bytes_of f (block_size x b))) s (other_block x s long b l f c ne)) d
