-- The stretch of catch rows that is found is exactly the rows that apply, where the keys rise and every exception is at most 7.
use mathlib.Core.Path.{◌≡◌, sym, ap, subst}
use mathlib.Core.Bool.{true, false, not}
use mathlib.Core.List.{List}
use Prim.Native.Nat.{ℕ, ◌<◌, ◌≤◌}
use native.Mathlib.Omega.{arith}
use borrow.Author.Tests.{lt-leb, leb-true, leb-false, not-true, not-false}
use Rattle.graph_tables.specs.declared.Tables.{Tables}
use Rattle.graph_tables.specs.declared.Table.TheVariants.{Catches}
use Rattle.graph_tables.specs.Fields.{catch_from, catch_exception}
use Rattle.graph_tables.specs.Family.{nearest}
use Rattle.graph_tables.proofs.Family.{nearest_le, nearest_one, nearest_is, is_nearest}
use Rattle.graph_rows.specs.Rows.{Rises, own_of, has_own, catches_of}
use Rattle.graph_rows.specs.Family.{HasRow, Applies}
use Rattle.graph_rows.proofs.Stretches.{In, in_stretch, of_stretch}

-- the rows of one exception at most apply
pub applies_one : {f : List ℕ} {t : Tables} {n e c d : ℕ} → Applies f t n e c → Applies f t n e d → c ≡ d
applies_one {f} {t} p q = nearest_one f t p q

module _ (f : List ℕ) (t : Tables) (h : Rises f t Catches) (seven : (k : ℕ) → k < t.catches → catch_exception f t k ≤ 7) (n : ℕ) where
  -- an exception's own rows
  in_own : (e : ℕ) → e ≤ 7 → (k : ℕ) → k < t.catches → catch_from f t k ≡ n → catch_exception f t k ≡ e → In (own_of f t n e) k
  in_own e small k l p q = in_stretch f t Catches h _ k l (omega arith)

  of_own : (e : ℕ) → e ≤ 7 → (k : ℕ) → In (own_of f t n e) k → (k < t.catches) × (catch_from f t k ≡ n) × (catch_exception f t k ≡ e)
  of_own e small k i =
      let w = of_stretch f t Catches h _ k i in
      let b : catch_exception f t k ≤ 7 = seven k w.0 in
      (w.0, omega arith, omega arith)

  -- and whether it has some
  has : (e : ℕ) → e ≤ 7 → has_own f t n e ≡ true → HasRow f t n e
  unfolding has_own
  has e small q =
      let k = (own_of f t n e).from in
      let w = of_own e small k (omega arith, leb-false _ _ (not-true _ q)) in
      (k, w.0, w.1, w.2)

  has_not : (e : ℕ) → e ≤ 7 → has_own f t n e ≡ false → HasRow f t n e → ⊥
  unfolding has_own
  has_not e small q w =
      let i = in_own e small w.0 w.1 w.2 w.3 in
      let l : (own_of f t n e).to ≤ (own_of f t n e).from = leb-true _ _ (not-false _ q) in
      omega (arith, i.0, i.1)

  in_has : (e k : ℕ) → In (own_of f t n e) k → has_own f t n e ≡ true
  unfolding has_own
  in_has e k i = ap not (lt-leb (own_of f t n e).to (own_of f t n e).from (omega (arith, i.0, i.1)))

  module _ (e : ℕ) (small : e ≤ 7) where
    pub in_catches : (k : ℕ) → k < t.catches → catch_from f t k ≡ n → Applies f t n e (catch_exception f t k) → In (catches_of f t n e) k
    in_catches k l p r = in_own _ (omega (arith, q, nearest_le f t r)) k l p (sym q)
      where
        q : nearest f t (has_own f t n) e ≡ catch_exception f t k
        q = nearest_is f t (has_own f t n) 7 has has_not small r

    pub of_catches : (k : ℕ) → In (catches_of f t n e) k → (k < t.catches) × (catch_from f t k ≡ n) × Applies f t n e (catch_exception f t k)
    of_catches k i =
        let r = is_nearest f t (has_own f t n) 7 has has_not e small (in_has _ k i) in
        let w = of_own _ (omega (arith, nearest_le f t r)) k i in
        (w.0, w.1, subst (Applies f t n e) (sym w.2) r)
