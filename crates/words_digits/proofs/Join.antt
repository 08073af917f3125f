-- Texts put one after another are one text put. The functions' proofs are chains of this law.
use Prim.Native.Nat.{ℕ, zero, suc, ◌+◌, ◌≤◌, ◌<◌}
use mathlib.Core.Path.{◌≡◌, refl, sym, ap, subst, ◌∙◌}
use mathlib.Core.Bool.{Bool, true, false}
use mathlib.Core.List.{List, [], ◌∷◌, ◌++◌, append_assoc}
use lib.ListN.{length, take, drop, set, length-append, length-set, take-append-drop}
use lib.Dec.{ltb}
use borrow.Author.Tests.{ltb-true, ltb-false}
use lib.Seq.{take_at, drop-drop, drop-append-add, length-take-le, sets-eq}
use native.Mathlib.Nat.{not-suc-le-zero}
use native.Mathlib.Numerals.{add-one}
use native.Mathlib.Omega.{arith}
use Rattle.words.specs.Write.{splice}
use Rattle.words_digits.specs.Text.{joined}
use Rattle.words_digits.specs.Puts.{Puts}

-- nothing is put by leaving all as it is
pub none : (s : List ℕ) (at : ℕ) → at ≤ length s → Puts s at [] s at
none s at h =
    let z : at + 0 ≡ at = omega arith in
    record {
      is = sym (rw z (take-append-drop at s));
      ends = sym z;
      fits = omega arith;
      long = refl;
    }

-- one store
pub one : (s : List ℕ) (at v : ℕ) → at + 1 ≤ length s → Puts s at (v ∷ []) (set s at v) (at + 1)
one s at v h =
    record {
      is = sets-eq (v ∷ []) s at h ∙ append_assoc (take at s) (v ∷ []) (drop (at + 1) s);
      ends = refl;
      fits = h;
      long = length-set s at v;
    }

splice_splice : (s : List ℕ) (a : ℕ) (x y : List ℕ) → a + length x ≤ length s
    → splice (splice s a x) (a + length x) y ≡ splice s a (x ++ y)
splice_splice s a x y h =
    let p : List ℕ = take a s ++ x in
    let r : List ℕ = drop (a + length x) s in
    let n : length p ≡ a + length x = simp length-append (omega (arith, length-take-le a s (omega arith))) in
    let l : a + length x + length y ≡ a + length (x ++ y) = simp length-append (omega arith) in
    let w : splice s a x ≡ p ++ r = sym (append_assoc (take a s) x r) in
    let front : take (a + length x) (p ++ r) ≡ p = take_at p r (a + length x) n in
    let back : drop (a + length x + length y) (p ++ r) ≡ drop (a + length (x ++ y)) s
    = ap (λ (k : ℕ). drop (k + length y) (p ++ r)) (sym n) ∙ drop-append-add p r (length y) ∙ drop-drop (length y) (a + length x) s ∙ ap (λ (k : ℕ). drop k s) l in
    ap (λ (z : List ℕ). splice z (a + length x) y) w
    ∙ (λ i. front i ++ (y ++ back i))
    ∙ simp append_assoc

pub retext : {s s' x y : List ℕ} {a b : ℕ} → Puts s a x s' b → x ≡ y → Puts s a y s' b
retext {s} {s'} {a = a} {b = b} p e = subst (λ (z : List ℕ). Puts s a z s' b) e p

infixl 60 ◌then◌
pub ◌then◌ : {s s' s'' x y : List ℕ} {a b e : ℕ} → Puts s a x s' b → Puts s' b y s'' e → Puts s a (x ++ y) s'' e
◌then◌ {s} {s'} {s''} {x} {y} {a} {b} {e} p q =
    let l : length (x ++ y) ≡ length x + length y = length-append x y in
    record {
      is = q.is ∙ (λ i. splice (p.is i) (p.ends i) y) ∙ splice_splice s a x y p.fits;
      ends = omega (arith, p.ends, q.ends);
      fits = omega (arith, p.ends, q.fits, p.long);
      long = q.long ∙ p.long;
    }

-- where there is room for both, there is room for the second
pub rest : {s s' x : List ℕ} {a b : ℕ} (y : List ℕ) → Puts s a x s' b → a + length (x ++ y) ≤ length s → b + length y ≤ length s'
rest {x = x} y p h = omega (arith, length-append x y)

-- a loop that puts the texts of 0 to n - 1
joined_more : (text : ℕ → List ℕ) (k : ℕ) → joined text (k + 1) ≡ joined text k ++ text k
unfolding joined
joined_more text k = rw add-one

pub start : (text : ℕ → List ℕ) (s : List ℕ) (at : ℕ) → at ≤ length s → Puts s at (joined text 0) s at
unfolding joined
start text s at h = none s at h

pub turn : (text : ℕ → List ℕ) (k : ℕ) {s s' s'' : List ℕ} {a b e : ℕ} → Puts s a (joined text k) s' b → Puts s' b (text k) s'' e
    → Puts s a (joined text (k + 1)) s'' e
turn text k p q = rw (joined_more text k) (p then q)

-- where there is room for all, there is room for each
pub room : (text : ℕ → List ℕ) (k n : ℕ) → k < n → length (joined text k) + length (text k) ≤ length (joined text n)
unfolding joined
room text k zero h = absurd (not-suc-le-zero h)
room text k (suc n) h = go (ltb k n) refl (room text k n)
  where
    all : length (joined text n ++ text n) ≡ length (joined text n) + length (text n)
    all = length-append (joined text n) (text n)

    go : (b : Bool) → ltb k n ≡ b → (k < n → length (joined text k) + length (text k) ≤ length (joined text n))
        → length (joined text k) + length (text k) ≤ length (joined text n ++ text n)
    go true q ih = let i : length (joined text k) + length (text k) ≤ length (joined text n) = ih (ltb-true k n q) in omega (arith, all)
    go false q ih =
        let w : n ≤ k = ltb-false k n q in
        let e : k ≡ n = omega arith in
        let l : length (joined text k) ≡ length (joined text n) = ap (λ (j : ℕ). length (joined text j)) e in
        let m : length (text k) ≡ length (text n) = ap (λ (j : ℕ). length (text j)) e in
        omega (arith, all)
