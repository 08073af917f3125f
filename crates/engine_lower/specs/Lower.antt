-- What is left of a sheet where one block is lowered.
use Rattle.std.specs.Prelude.{ℕ, ◌*◌, cond, List}
use Rattle.effect.specs.declared.Stock.{Stock}
use Rattle.effect.specs.declared.Effect.{Effect}
use Rattle.effect.specs.Whole.{both_of, lower_of}
use Rattle.sheet_layout.specs.declared.Shape.{Shape}
use Rattle.sheet.specs.Read.{stock_at, effect_at, marked}
use Rattle.words.specs.Write.{splice}
use Rattle.sheet.specs.Write.{stock_bytes, effect_bytes}
use Rattle.sheet.specs.Under.{effect_under, stock_under}

-- "mark 1 and at most" e: a block that is so stays; another is marked, and is lowered to e from what it said
unfoldable pub effect_to : List ℕ → Shape → ℕ → Effect → List ℕ
effect_to s x w e =
    cond (effect_under s x w e) s
    (splice s (2 * w) (effect_bytes (cond (marked s w) (both_of (effect_at s x.types w) e) e) x.types))

unfoldable pub stock_to : List ℕ → Shape → ℕ → Stock → List ℕ
stock_to s x w h =
    cond (stock_under s x w h) s
    (splice s (2 * w) (stock_bytes (cond (marked s w) (lower_of (stock_at s x.types w) h) h) x.types))
