-- A node that is no return and no throw asks nothing by rules 4 to 6.
use Prim.Native.Nat.{ℕ}
use mathlib.Core.Path.{◌≡◌, refl}
use mathlib.Core.Bool.{Bool, true, false, cond, ◌||◌}
use mathlib.Core.List.{List}
use lib.Dec.{eqb}
use Rattle.words.proofs.Tests.{neither}
use Rattle.graph_tables.specs.declared.Tables.{Tables}
use Rattle.graph_tables.specs.Kinds.{return_kind, throw_kind}
use Rattle.graph_tables.specs.Fields.{node_kind}
use Rattle.sheet_layout.specs.declared.Shape.{Shape}
use Rattle.sheet_layout.specs.Layout.{node_at}
use Rattle.sheet.specs.Read.{marked}
use Rattle.rule_ask.specs.Gives.{node_effect}
use Rattle.rule_ask.specs.Walk.{Ask, end_walk, node_walk}

module _ (f : List ℕ) (t : Tables) (x : Shape) {A : Type 0} (view : A → List ℕ) (take : Ask → A → A) (n : ℕ) (h : (eqb (node_kind f t n) return_kind || eqb (node_kind f t n) throw_kind) ≡ false) (z : A) where
  pub quiet : z ≡ node_walk f t x view take n z
  unfolding node_walk end_walk
  quiet = go (marked (view z) (node_at x n))
    where
      go : (b : Bool) → z ≡ cond b (end_walk f t x view take n (node_effect x (view z) n) z) z
      go false = refl
      go true = let w = neither (eqb (node_kind f t n) return_kind) (eqb (node_kind f t n) throw_kind) h in simp (w.0, w.1)
