-- What loops, literals and `from_fn` leave, in a block that is read or written.
use Prim.Native.Nat.{ℕ, zero, suc, ◌+◌, ◌*◌, ◌≤◌, ◌<◌}
use mathlib.Core.Path.{◌≡◌, refl, ap, subst, ◌∙◌}
use mathlib.Core.List.{List, [], ◌∷◌}
use lib.ListN.{length, get_or, take, set, replicate, length-set}
use native.Mathlib.Nat.{not-suc-le-zero, mul-le-mul_left, mul-suc}
use native.Mathlib.Decide.{dec_lt, ℕ_discrete}
use native.Mathlib.Numerals.{add-one}
use native.Mathlib.Omega.{arith}
use denote.Param.Members.{Mut, Called}
use Rattle.std.specs.Array.{IsFromFnResult, IsFromFnResultFrom}
use Rattle.std.proofs.lemmas.List.FromFn.{fill_by_all}
use Rattle.words.specs.Write.{bytes_of}
use Rattle.words.proofs.Splice.{bytes_same}
use Rattle.sheet_layout.specs.Layout.{stock_size}
use Rattle.effect.specs.declared.Stock.{Stock}
use Rattle.effect.specs.Six.{six}
use Rattle.effect.proofs.Six.{below_six}
use Rattle.sheet.specs.Write.{stock_word, stock_bytes, laid_out}

-- the turns of a loop over t types with n words each, at type k
pub turns : (n : ℕ) {k t : ℕ} → k < t → n * k + n ≤ n * t
turns n {k} {t} h = rw (mul-suc n k) at (mul-le-mul_left n h)

-- a field is laid out type by type
pub laid_none : (v : List ℕ) (n j : ℕ) (c : List ℕ) → v ≡ laid_out v n j c 0
unfolding laid_out
laid_none v n j c = refl

pub laid_more : (v : List ℕ) (n j : ℕ) (c : List ℕ) (k : ℕ) {r : List ℕ} → r ≡ laid_out v n j c k → set r (j + n * k) (get_or c k 0) ≡ laid_out v n j c (k + 1)
unfolding laid_out
laid_more v n j c k {r} e = rw add-one (ap (λ (l : List ℕ). set l (j + n * k) (get_or c k 0)) e)

laid_length : (v : List ℕ) (n j : ℕ) (c : List ℕ) (t : ℕ) → length (laid_out v n j c t) ≡ length v
unfolding laid_out
laid_length v n j c zero = refl
laid_length v n j c (suc t) = length-set (laid_out v n j c t) (j + n * t) (get_or c t 0) ∙ laid_length v n j c t

pub laid_long : (v : List ℕ) (n j : ℕ) (c : List ℕ) (t : ℕ) {l : List ℕ} → l ≡ laid_out v n j c t → length v ≡ 25 → length l ≡ 25
laid_long v n j c t e h = ap length e ∙ laid_length v n j c t ∙ h

-- the words f 0 to f (m - 1), in a list
unfoldable listed : (ℕ → ℕ) → ℕ → List ℕ
listed f zero = []
listed f (suc m) = f 0 ∷ listed (λ k. f (suc k)) m

listed_length : (f : ℕ → ℕ) (m : ℕ) → length (listed f m) ≡ m
unfolding listed
listed_length f zero = refl
listed_length f (suc m) = ap suc (listed_length (λ k. f (suc k)) m)

listed_at : (f : ℕ → ℕ) (m k : ℕ) → k < m → get_or (listed f m) k 0 ≡ f k
unfolding listed
listed_at f zero k h = absurd (not-suc-le-zero h)
listed_at f (suc m) zero h = refl
listed_at f (suc m) (suc k) h = listed_at (λ j. f (suc j)) m k (omega arith)

put_listed : (f : ℕ → ℕ) (n : ℕ) {l : List ℕ} → l ≡ listed f n → bytes_of (λ k. get_or l k 0) (length l) ≡ bytes_of f n
put_listed f n e = rw (e, listed_length f n) (bytes_same (λ k. get_or (listed f n) k 0) f n (listed_at f n))

-- at most six types
to_six : (P : ℕ → Type 0) → P 0 → P 1 → P 2 → P 3 → P 4 → P 5 → P 6 → (t : ℕ) → t ≤ 6 → P t
to_six P a b c d e f g t h = elim (dec_lt t 6) [
  | yes l ↦ below_six P a b c d e f t l
  | no l ↦ let q : 6 ≡ t = omega arith in subst P q g
]

-- a block whose fields are laid out has its words
pub stock_laid : (x : Stock) (t : ℕ) → t ≤ 6 → {r l : List ℕ} → r ≡ laid_out (replicate 25 1) 2 1 x.rights t → l ≡ laid_out r 2 2 x.counts t
    → bytes_of (λ k. get_or (take (stock_size t) l) k 0) (length (take (stock_size t) l)) ≡ stock_bytes x t
unfolding stock_word laid_out listed
stock_laid x t h p q =
    put_listed (stock_word x) (stock_size t)
    (ap (take (stock_size t)) (rw p at q)
    ∙ to_six (λ t. take (stock_size t) (laid_out (laid_out (replicate 25 1) 2 1 x.rights t) 2 2 x.counts t) ≡ listed (stock_word x) (stock_size t))
    refl refl refl refl refl refl refl t h)

-- the array that `from_fn` makes, where each call leaves the closure as it is and gives what f says
module _ {C : Type 0} {g : Mut C (ℕ × Unit {0}) ℕ} {c : C} (f : ℕ → ℕ) (calls : (k : ℕ) (y : ℕ) (d : C) → Called g c (k, tt) y d → (d ≡ c) × (y ≡ f k)) where
  made_at : (ys : List ℕ) (n i : ℕ) → IsFromFnResultFrom g c ys i n → (k : ℕ) → i ≤ k → k < i + n → get_or ys k 0 ≡ f k
  made_at ys zero i e k l m = absurd (omega arith)
  made_at ys (suc n) i (d, y, e, p, r) k l m = elim (ℕ_discrete k i) [
    | yes q ↦ rw q (e.1 0 ∙ (calls i y d p).1)
    | no q ↦ made_at ys n (i + 1) (subst (λ (s : C). IsFromFnResultFrom g s ys (i + 1) n) (calls i y d p).0 r) k (omega arith) (omega arith)
  ]

  pub made_six : {ys : List ℕ} → IsFromFnResult g c ys 6 → ys ≡ six f
  made_six {ys} e = fill_by_all f ys 6 0 e.long (λ k h. made_at ys 6 0 e.each k (omega arith) (omega arith))
