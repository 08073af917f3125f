-- What the rules say of the block that they lead to.
use Rattle.std.specs.Prelude.{ℕ, Bool, ◌&&◌, List}
use Rattle.effect.specs.declared.Stock.{Stock}
use Rattle.effect.specs.declared.Effect.{Effect}
use Rattle.effect.specs.Whole.{at_most_of, stock_at_most_of}
use Rattle.sheet_layout.specs.declared.Shape.{Shape}
use Rattle.sheet.specs.Read.{marked, stock_at, effect_at}

-- "mark 1 and at most" what is named
unfoldable pub effect_under : List ℕ → Shape → ℕ → Effect → Bool
effect_under s x w e = marked s w && at_most_of (effect_at s x.types w) e

unfoldable pub stock_under : List ℕ → Shape → ℕ → Stock → Bool
stock_under s x w h = marked s w && stock_at_most_of (stock_at s x.types w) h
