-- The sheet that bytes say, in the place that the rules leave for it.
use Rattle.std.specs.Prelude.{ℕ, ◌<◌, ◌≡◌, List}
use Rattle.model.specs.Rules.{Sheet}
use Rattle.model.specs.Stocks.{permits}
use Rattle.sheet_layout.specs.declared.Shape.{Shape}
use Rattle.sheet_layout.specs.Layout.{method_at, exit_at, node_at}
use Rattle.sheet.specs.Read.{mark_at, stock_at, effect_at}

-- a block is marked if it stands in the sheet and its mark is 1
abbrev pub sheet_in : Shape → List ℕ → Sheet permits
sheet_in x s = record {
  Called = λ m. (m < x.methods) × (mark_at s (method_at x m) ≡ 1);
  stock = λ m. stock_at s x.types (method_at x m);
  Exit = λ m e. (m < x.methods) × (e < 9) × (mark_at s (exit_at x m e) ≡ 1);
  exit = λ m e. effect_at s x.types (exit_at x m e);
  Node = λ n. (n < x.nodes) × (mark_at s (node_at x n) ≡ 1);
  node = λ n. effect_at s x.types (node_at x n);
}
