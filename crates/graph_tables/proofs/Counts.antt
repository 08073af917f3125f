-- What the trailer says of the tables, field by field.
use Prim.Native.Nat.{ℕ, ◌+◌, ◌*◌, ◌≤◌}
use mathlib.Core.Path.{◌≡◌, refl}
use mathlib.Core.List.{List}
use native.Mathlib.Omega.{arith}
use Rattle.words.proofs.Read.{word_past}
use Rattle.graph_tables.specs.Trailer.{trailer_at, trailer, tables_of}

module _ (f : List ℕ) where
  pub methods_are : (tables_of f).methods ≡ trailer f 0
  unfolding tables_of
  methods_are = refl

  pub nodes_are : (tables_of f).nodes ≡ trailer f 1
  unfolding tables_of
  nodes_are = refl

  pub flows_are : (tables_of f).flows ≡ trailer f 2
  unfolding tables_of
  flows_are = refl

  pub calls_are : (tables_of f).calls ≡ trailer f 3
  unfolding tables_of
  calls_are = refl

  pub catches_are : (tables_of f).catches ≡ trailer f 4
  unfolding tables_of
  catches_are = refl

  pub types_are : (tables_of f).types ≡ trailer f 5
  unfolding tables_of
  types_are = refl

  -- the sum 2M + 8N + 4F + 4C + 8 + 6X + 4T
  pub end_is : (tables_of f).end ≡ 2 * (tables_of f).methods + 8 * (tables_of f).nodes + 4 * (tables_of f).flows + 4 * (tables_of f).calls + 8 + 6 * (tables_of f).catches + 4 * (tables_of f).types
  unfolding tables_of
  end_is = refl

-- the trailer is the last 14 bytes, so it has seven words
pub trailer_past : (f : List ℕ) (i : ℕ) → 7 ≤ i → trailer f i ≡ 0
unfolding trailer trailer_at
trailer_past f i h = word_past f _ (omega arith)
