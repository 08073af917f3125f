-- What a sheet s with the shape x says of node n of a file f with the tables t.
use Rattle.std.specs.Prelude.{ℕ, Bool, ◌&&◌, List}
use Rattle.effect.specs.declared.Stock.{Stock}
use Rattle.effect.specs.Whole.{apply_of}
use Rattle.graph_tables.specs.declared.Tables.{Tables}
use Rattle.graph_tables.specs.Fields.{node_method}
use Rattle.sheet_layout.specs.declared.Shape.{Shape}
use Rattle.sheet_layout.specs.Layout.{method_at, node_at}
use Rattle.sheet.specs.Read.{stock_at, effect_at, marked}

-- "A node is reached if its mark and its method's called mark are 1"
abbrev pub is_reached : List ℕ → Tables → Shape → List ℕ → ℕ → Bool
is_reached f t x s n = marked s (node_at x n) && marked s (method_at x (node_method f t n))

-- "its stock is its effect applied to the method's stock"
abbrev pub node_stock : List ℕ → Tables → Shape → List ℕ → ℕ → Stock
node_stock f t x s n = apply_of (effect_at s x.types (node_at x n)) (stock_at s x.types (method_at x (node_method f t n)))
