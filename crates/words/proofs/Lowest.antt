-- `lowest` is what its comment says, and a loop that counts upwards and stops at the first hit computes it.
use Prim.Native.Nat.{ℕ, zero, suc, ◌<◌, ◌≤◌}
use mathlib.Core.Path.{◌≡◌, refl, sym, ◌∙◌}
use mathlib.Core.Bool.{Bool, true, false, cond}
use lib.Dec.{ltb}
use borrow.Author.Tests.{le-ltb, ltb-true, ltb-false}
use native.Mathlib.Nat.{le_refl, lt_irrefl, not-suc-le-zero}
use borrow.Author.Count.{below_more}
use native.Mathlib.Omega.{arith}
use native.Mathlib.Decide.{dec_lt}
use borrow.Author.Rules.{rules}
use Rattle.std.specs.Prelude.{MatchOption}
use Rattle.std.specs.declared.option.Option.{Option}
use Rattle.std.specs.declared.option.Option.TheVariants.{None, Some}
use Rattle.std.specs.Option.{unwrap_or}
use Rattle.words.specs.Lowest.{lowest}

-- p holds of no number below i
abbrev pub NoneBelow : (ℕ → Bool) → ℕ → Type 0
NoneBelow p i = (k : ℕ) → k < i → p k ≡ false

pub lowest_none : (p : ℕ → Bool) (n : ℕ) → NoneBelow p n → lowest p n ≡ n
unfolding lowest
lowest_none p zero h = refl
lowest_none p (suc n) h =
    let ih : lowest p n ≡ n = lowest_none p n (λ k l. h k (omega arith)) in
    simp (ih, le-ltb n n (le_refl n), h n (le_refl (suc n)))

pub lowest_is : (p : ℕ → Bool) (n i : ℕ) → NoneBelow p i → i < n → p i ≡ true → lowest p n ≡ i
unfolding lowest
lowest_is p zero i h l e = omega arith
lowest_is p (suc n) i h l e = go (ltb i n) refl (lowest_is p n i h)
  where
    go : (b : Bool) → ltb i n ≡ b → (i < n → p i ≡ true → lowest p n ≡ i) → lowest p (suc n) ≡ i
    go true t ih =
        let q : lowest p n ≡ i = ih (ltb-true i n t) e in
        simp (q, t)
    go false t ih =
        let w : n ≤ i = ltb-false i n t in
        let s : n ≡ i = omega arith in
        let q : lowest p n ≡ n = lowest_none p n (λ k l. h k (omega arith)) in
        let e' : p n ≡ true = rw s e in
        simp (q, le-ltb n n (le_refl n), e') s

-- tests that agree below n have the same lowest
pub lowest_same : (p q : ℕ → Bool) (n : ℕ) → ((k : ℕ) → k < n → p k ≡ q k) → lowest p n ≡ lowest q n
unfolding lowest
lowest_same p q zero h = refl
lowest_same p q (suc n) h =
    let a : lowest p n ≡ lowest q n = lowest_same p q n (λ k l. h k (omega arith)) in
    let b : p n ≡ q n = h n (le_refl (suc n)) in
    λ i. cond (ltb (a i) n) (a i) (cond (b i) n (suc n))

-- what a loop over the rows returns, where it counts to n and n is the number m of rows
pub scan_found : (p : ℕ → Bool) {n m i : ℕ} → n ≡ m → NoneBelow p i → i < n → p i ≡ true → i ≡ lowest p m
scan_found p {n} {m} {i} q h l e = sym (lowest_is p m i h (rw q at l) e)

pub scan_none : (p : ℕ → Bool) {n m i : ℕ} → n ≡ m → NoneBelow p i → n ≤ i → n ≡ lowest p m
scan_none p {n} {m} {i} q h l = q ∙ sym (lowest_none p m (λ k w. h k (omega arith)))

-- what `find` over the range 0..n gives, or n, where n is the number m of rows: `first_from_Range` of the library reads the clause of `find`
pub find_lowest : (p : ℕ → Bool) {n m : ℕ} → n ≡ m → (r : Option ℕ)
    → MatchOption r ((k : ℕ) → 0 ≤ k → k < n → p k ≡ false) (λ i. (0 ≤ i) × (i < n) × (p i ≡ true) × ((k : ℕ) → 0 ≤ k → k < i → p k ≡ false))
    → unwrap_or r n ≡ lowest p m
find_lowest p q None h = scan_none p q (λ k l. h k (search rules) l) (search rules)
find_lowest p q (Some i) h = scan_found p q (λ k l. h.3 k (search rules) l) h.1 h.2

-- the same over i..n, where p holds of nothing below i
pub find_from : (p : ℕ → Bool) {n m i : ℕ} → n ≡ m → NoneBelow p i → (r : Option ℕ)
    → MatchOption r ((k : ℕ) → i ≤ k → k < n → p k ≡ false) (λ j. (i ≤ j) × (j < n) × (p j ≡ true) × ((k : ℕ) → i ≤ k → k < j → p k ≡ false))
    → unwrap_or r n ≡ lowest p m
find_from p {n} {m} {i} q b None h = scan_none p q (λ k l. elim (dec_lt k i) [ yes u ↦ b k u | no u ↦ h k (omega arith) l ]) (search rules)
find_from p {n} {m} {i} q b (Some j) h = scan_found p q (λ k l. elim (dec_lt k i) [ yes u ↦ b k u | no u ↦ h.3 k (omega arith) l ]) h.1 h.2

-- at most n; p holds of nothing below it; and of it, where it is below n
pub record Lowest (p : ℕ → Bool) (n r : ℕ) : Type 0 where
  pub within : r ≤ n
  pub before : NoneBelow p r
  pub found : r < n → p r ≡ true

pub is_lowest : (p : ℕ → Bool) (n : ℕ) → Lowest p n (lowest p n)
unfolding lowest
is_lowest p zero = record { within = le_refl 0; before = λ k l. absurd (not-suc-le-zero l); found = λ l. absurd (not-suc-le-zero l) }
is_lowest p (suc n) = go (is_lowest p n) (ltb (lowest p n) n) refl (p n) refl
  where
    go : Lowest p n (lowest p n) → (b : Bool) → ltb (lowest p n) n ≡ b → (c : Bool) → p n ≡ c → Lowest p (suc n) (lowest p (suc n))
    go w true q c e =
        let l : lowest p n < n = ltb-true (lowest p n) n q in
        rw q (record { within = omega arith; before = w.before; found = λ u. w.found l })
    go w false q true e =
        let l : n ≤ lowest p n = ltb-false (lowest p n) n q in
        let s : lowest p n ≡ n = omega (arith, w.within) in
        rw (q, e) (record { within = omega arith; before = rw s at w.before; found = λ u. e })
    go w false q false e =
        let l : n ≤ lowest p n = ltb-false (lowest p n) n q in
        let s : lowest p n ≡ n = omega (arith, w.within) in
        rw (q, e) (record { within = le_refl (suc n); before = λ k u. below (rw s at w.before) k u; found = λ u. absurd (lt_irrefl (suc n) u) })
      where
        below : NoneBelow p n → (k : ℕ) → k < suc n → p k ≡ false
        below h k u = below_more (λ (m : ℕ). p m ≡ false) n h e k (omega arith)

pub none_found : (p : ℕ → Bool) (n : ℕ) → ltb (lowest p n) n ≡ false → NoneBelow p n
none_found p n h =
    let l : n ≤ lowest p n = ltb-false (lowest p n) n h in
    λ k u. (is_lowest p n).before k (omega arith)
