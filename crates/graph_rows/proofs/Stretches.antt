-- The stretch of a key is exactly the rows with that key, where the keys rise.
use mathlib.Core.Path.{◌≡◌, refl}
use mathlib.Core.Bool.{Bool, true, false}
use mathlib.Core.List.{List}
use Prim.Native.Nat.{ℕ, ◌+◌, ◌<◌, ◌≤◌}
use native.Mathlib.Omega.{arith}
use lib.Dec.{ltb}
use borrow.Author.Tests.{ltb-true, ltb-false, leb-true, leb-false}
use Rattle.words.proofs.Lowest.{Lowest, is_lowest}
use Rattle.graph_tables.specs.declared.Tables.{Tables}
use Rattle.graph_tables.specs.declared.Table.{Table}
use Rattle.graph_tables.specs.Rows.{rows_of}
use Rattle.graph_rows.specs.declared.Stretch.{Stretch}
use Rattle.graph_rows.specs.Rows.{key_of, Rises, first_row, stretch_of}
use Rattle.graph_rows.proofs.Halve.{AtLeast}

-- row k is one of the stretch
abbrev pub In : Stretch → ℕ → Type 0
In s k = (s.from ≤ k) × (k < s.to)

module _ (f : List ℕ) (t : Tables) (table : Table) where
  pub first_lowest : (x : ℕ) → Lowest (AtLeast (key_of f t table) x) (rows_of t table) (first_row f t table x)
  unfolding first_row
  first_lowest x = is_lowest (AtLeast (key_of f t table) x) (rows_of t table)

  -- before the first row keys are less than x
  before_first : (x k : ℕ) → k < first_row f t table x → key_of f t table k < x
  before_first x k l = leb-false x (key_of f t table k) ((first_lowest x).before k l)

  -- a larger key's first row is no earlier
  pub first_next : (x : ℕ) → first_row f t table x ≤ first_row f t table (x + 1)
  first_next x = go (ltb (first_row f t table (x + 1)) (first_row f t table x)) refl
    where
      go : (b : Bool) → ltb (first_row f t table (x + 1)) (first_row f t table x) ≡ b → first_row f t table x ≤ first_row f t table (x + 1)
      go false q = ltb-false _ _ q
      go true q =
          let l : first_row f t table (x + 1) < first_row f t table x = ltb-true _ _ q in
          let i = first_row f t table (x + 1) in
          let a : x + 1 ≤ key_of f t table i = leb-true (x + 1) (key_of f t table i) ((first_lowest (x + 1)).found (omega (arith, (first_lowest x).within))) in
          let b : key_of f t table i < x = before_first x i l in
          absurd (omega arith)

  pub to_within : (x : ℕ) → (stretch_of f t table x).to ≤ rows_of t table
  unfolding stretch_of
  to_within x = (first_lowest (x + 1)).within

  module _ (h : Rises f t table) where
    -- from it on they are at least x
    from_first : (x k : ℕ) → first_row f t table x ≤ k → k < rows_of t table → x ≤ key_of f t table k
    from_first x k l u =
        let i = first_row f t table x in
        let v : i < rows_of t table = omega arith in
        let a : x ≤ key_of f t table i = leb-true x (key_of f t table i) ((first_lowest x).found v) in
        let b : key_of f t table i ≤ key_of f t table k = h i k l u in
        omega arith

    pub in_stretch : (x k : ℕ) → k < rows_of t table → key_of f t table k ≡ x → In (stretch_of f t table x) k
    unfolding stretch_of
    in_stretch x k u e = (low (ltb k (first_row f t table x)) refl, high (ltb k (first_row f t table (x + 1))) refl)
      where
        low : (b : Bool) → ltb k (first_row f t table x) ≡ b → first_row f t table x ≤ k
        low true q = let v : key_of f t table k < x = before_first x k (ltb-true k (first_row f t table x) q) in omega arith
        low false q = ltb-false k (first_row f t table x) q

        high : (b : Bool) → ltb k (first_row f t table (x + 1)) ≡ b → k < first_row f t table (x + 1)
        high true q = ltb-true k (first_row f t table (x + 1)) q
        high false q = let v : x + 1 ≤ key_of f t table k = from_first (x + 1) k (ltb-false k (first_row f t table (x + 1)) q) u in omega arith

    pub of_stretch : (x k : ℕ) → In (stretch_of f t table x) k → (k < rows_of t table) × (key_of f t table k ≡ x)
    unfolding stretch_of
    of_stretch x k i =
        let w = (first_lowest (x + 1)).within in
        let v : k < rows_of t table = omega arith in
        let a : x ≤ key_of f t table k = from_first x k i.0 v in
        let b : key_of f t table k < x + 1 = before_first (x + 1) k i.1 in
        (v, omega arith)
