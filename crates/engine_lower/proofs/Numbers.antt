-- The shape of a file's sheet, and which of the blocks' numbers are a stock's.
use Prim.Native.Nat.{ℕ, ◌+◌, ◌*◌, ◌%◌, ◌<◌}
use mathlib.Core.Path.{◌≡◌, refl}
use mathlib.Core.Bool.{Bool, true, false, ◌&&◌}
use mathlib.Core.List.{List}
use lib.Dec.{ltb}
use borrow.Author.Tests.{lt-ltb, le-ltb, eq-eqb, ne_eqb}
use native.Mathlib.Omega.{arith}
use Rattle.graph_tables.specs.Trailer.{tables_of}
use Rattle.graph.specs.Judgement.{shape_of}
use Rattle.sheet_layout.specs.declared.Shape.{Shape}
use Rattle.sheet_layout.specs.Layout.{is_stock}

abbrev pub shape : List ℕ → Shape
shape f = shape_of (tables_of f)

module _ (x : Shape) where
  pub method_stock : (m : ℕ) → m < x.methods → is_stock x (10 * m) ≡ true
  method_stock m l = simp (lt-ltb (10 * m) (10 * x.methods) (omega arith), eq-eqb (10 * m % 10) 0 (omega arith))

  pub node_effect_lem : (n : ℕ) → is_stock x (10 * x.methods + n) ≡ false
  node_effect_lem n = simp (le-ltb (10 * x.methods + n) (10 * x.methods) (omega arith))

  pub exit_effect_lem : (m e : ℕ) → e < 9 → is_stock x (10 * m + 1 + e) ≡ false
  exit_effect_lem m e l = second (ltb (10 * m + 1 + e) (10 * x.methods)) (ne_eqb ((10 * m + 1 + e) % 10) 0 (λ z. omega arith))
    where
      second : (a : Bool) {b : Bool} → b ≡ false → a && b ≡ false
      second true h = h
      second false h = refl
