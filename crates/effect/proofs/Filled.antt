-- What a loop over the six types has made after k turns, and what a fold over them tells.
use Prim.Native.Nat.{ℕ, zero, suc, ◌+◌, ◌≤◌, ◌<◌}
use mathlib.Core.Path.{◌≡◌, refl, sym, ◌∙◌}
use mathlib.Core.Bool.{Bool, true, cond, ◌&&◌, and-true, and_assoc}
use mathlib.Core.List.{List, [], ◌∷◌, ◌++◌}
use lib.ListN.{set}
use lib.Dec.{ltb}
use native.Mathlib.Numerals.{add-one}
use native.Mathlib.Omega.{arith}
use denote.Param.Members.{Mut, Called}
use Rattle.std.specs.declared.option.Option.{Option}
use Rattle.std.specs.Iterator.{Drains}
use Rattle.std.specs.List.{FoldsTo, list_all, range_with_len}
use Rattle.std.proofs.lemmas.Fn.{fold_over}
use Rattle.std.proofs.lemmas.Iterator.{YieldsList}
use Rattle.std.proofs.lemmas.List.Folds.{list_all-append}
use Rattle.effect_one.specs.declared.Held.{Held}
use Rattle.effect_one.specs.declared.One.{One}
use Rattle.effect.specs.declared.Stock.{Stock}
use Rattle.effect.specs.declared.Effect.{Effect}
use Rattle.effect.specs.Six.{six, all_six, stock_of}
use Rattle.effect.proofs.Six.{below_six}

-- the first k of the six are those of f, the others `none`
abbrev pub up_to : (ℕ → ℕ) → ℕ → ℕ → ℕ → ℕ
up_to f none k i = cond (ltb i k) (f i) none

more : (f : ℕ → ℕ) (none k : ℕ) → k < 6 → set (six (up_to f none k)) k (f k) ≡ six (up_to f none (k + 1))
more f none = below_six (λ k. set (six (up_to f none k)) k (f k) ≡ six (up_to f none (k + 1))) refl refl refl refl refl refl

pub one_more : (f : ℕ → ℕ) (none : ℕ) {l : List ℕ} (k : ℕ) {v : ℕ} → k < 6 → l ≡ six (up_to f none k) → v ≡ f k → set l k v ≡ six (up_to f none (k + 1))
one_more f none {l} k {v} h p q = (λ i. set (p i) k (q i)) ∙ more f none k h

-- all of t types
pub all_read : (f : ℕ → ℕ) (none : ℕ) {l : List ℕ} {t k : ℕ} → k ≤ t → t ≤ k → l ≡ six (up_to f none k) → l ≡ six (up_to f none t)
all_read f none {l} {t} {k} h g p = let e : t ≡ k = omega arith in rw e p

-- an effect's four fields, after k of t types: of those what f says, of the others what `none` says
module _ (f : ℕ → One) (none : One) where
  abbrev pub Ones : ℕ → List ℕ → List ℕ → List ℕ → List ℕ → ℕ → Type 0
  Ones t i m c d k =
      (k ≤ t)
      × (i ≡ six (up_to (λ j. (f j).keepin) none.keepin k))
      × (m ≡ six (up_to (λ j. (f j).keepmax) none.keepmax k))
      × (c ≡ six (up_to (λ j. (f j).cap) none.cap k))
      × (d ≡ six (up_to (λ j. (f j).drop) none.drop k))

  pub ones_more : {t : ℕ} {i m c d : List ℕ} {k : ℕ} {x : One} → t ≤ 6 → k < t → Ones t i m c d k → x ≡ f k
      → Ones t (set i k x.keepin) (set m k x.keepmax) (set c k x.cap) (set d k x.drop) (k + 1)
  ones_more {k = k} few h v e =
      let l : k < 6 = omega arith in (
        omega arith,
        one_more (λ j. (f j).keepin) none.keepin k l v.1 (λ i. (e i).keepin),
        one_more (λ j. (f j).keepmax) none.keepmax k l v.2 (λ i. (e i).keepmax),
        one_more (λ j. (f j).cap) none.cap k l v.3 (λ i. (e i).cap),
        one_more (λ j. (f j).drop) none.drop k l v.4 (λ i. (e i).drop),
      )

  pub ones_all : {t : ℕ} {i m c d : List ℕ} {k : ℕ} → Ones t i m c d k → t ≤ k
      → ◌≡◌ {A = Effect}
      (record { keepin = i; keepmax = m; cap = c; drop = d })
      (record {
        keepin = six (up_to (λ j. (f j).keepin) none.keepin t);
        keepmax = six (up_to (λ j. (f j).keepmax) none.keepmax t);
        cap = six (up_to (λ j. (f j).cap) none.cap t);
        drop = six (up_to (λ j. (f j).drop) none.drop t);
      })
  ones_all v h =
      let p = all_read (λ j. (f j).keepin) none.keepin v.0 h v.1 in
      let q = all_read (λ j. (f j).keepmax) none.keepmax v.0 h v.2 in
      let r = all_read (λ j. (f j).cap) none.cap v.0 h v.3 in
      let s = all_read (λ j. (f j).drop) none.drop v.0 h v.4 in
      λ i. record { keepin = p i; keepmax = q i; cap = r i; drop = s i }

-- what an array holds that is not filled yet
abbrev pub unfilled : One
unfilled = record { keepin = 0; keepmax = 0; cap = 0; drop = 0 }

-- a stock's two
module _ (f : ℕ → Held) where
  abbrev pub Helds : List ℕ → List ℕ → ℕ → Type 0
  Helds a b k = (k ≤ 6) × (a ≡ six (up_to (λ j. (f j).rights) 0 k)) × (b ≡ six (up_to (λ j. (f j).count) 0 k))

  pub helds_more : {a b : List ℕ} {k : ℕ} {x : Held} → k < 6 → Helds a b k → x ≡ f k → Helds (set a k x.rights) (set b k x.count) (k + 1)
  helds_more {k = k} h v e =
      (omega arith, one_more (λ j. (f j).rights) 0 k h v.1 (λ i. (e i).rights), one_more (λ j. (f j).count) 0 k h v.2 (λ i. (e i).count))

  pub helds_all : {a b : List ℕ} {k : ℕ} → Helds a b k → 6 ≤ k → ◌≡◌ {A = Stock} (record { rights = a; counts = b }) (stock_of f)
  helds_all v h =
      let p = all_read (λ j. (f j).rights) 0 v.0 h v.1 in
      let q = all_read (λ j. (f j).count) 0 v.0 h v.2 in
      λ i. record { rights = p i; counts = q i }

-- a test of each
unfoldable pub all_below : (ℕ → Bool) → ℕ → Bool
all_below f zero = true
all_below f (suc k) = all_below f k && f k

module _ (f : ℕ → Bool) where
  pub all_none : true ≡ all_below f 0
  unfolding all_below
  all_none = refl

  pub all_more : {b x : Bool} (k : ℕ) → b ≡ all_below f k → x ≡ f k → b && x ≡ all_below f (k + 1)
  unfolding all_below
  all_more k p q = rw add-one (λ i. p i && q i)

  pub all_all : {b : Bool} {k : ℕ} → k ≤ 6 → 6 ≤ k → b ≡ all_below f k → b ≡ all_six f
  unfolding all_below
  all_all {k = k} h g p = let e : k ≡ 6 = omega arith in p ∙ rw e (simp and_assoc)

-- `fold` that asks a test of each of the numbers 0 to 5
module _ (f : ℕ → Bool) where
  all_counted : list_all f (range_with_len 0 6) ≡ all_six f
  all_counted = λ i. f 0 && (f 1 && (f 2 && (f 3 && (f 4 && and-true (f 5) i))))

  one_asked : (ks : List ℕ) (k : ℕ) → (list_all f ks && f k) ≡ list_all f (ks ++ (k ∷ []))
  one_asked ks k = (λ i. list_all f ks && sym (and-true (f k)) i) ∙ sym (list_all-append f ks (k ∷ []))

  pub all_folded : {C S : Type 0} {g : Mut C (Bool × (ℕ × Unit {0})) Bool} {c : C} {steps : S → Option ℕ → S → Type 0} {s : S}
      → ((b : Bool) (k : ℕ) (r : Bool) (d : C) → Called g c (b, (k, tt)) r d → (d ≡ c) × (r ≡ b && f k)) → YieldsList steps (λ k. k) s (range_with_len 0 6) → {r : Bool}
      → (ks : List ℕ) × (d : C) × Drains steps s ks × FoldsTo {P = C × Bool} (λ p k q. Called g p.0 (p.1, (k, tt)) q.1 q.0) (c, true) ks (d, r) → r ≡ all_six f
  all_folded {g = g} {c = c} {steps = steps} calls six {r = r} ran =
      fold_over steps (λ k. k) g (λ ks b. b ≡ list_all f ks) c
      (λ ks b k r d h q. let v = calls b k r d q in (v.1 ∙ (λ i. h i && f k) ∙ one_asked ks k, v.0)) _ (range_with_len 0 6) true r six.runs refl ran
      ∙ all_counted
