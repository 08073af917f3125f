-- What is left of a sheet where a block is lowered to what is asked of it, and whether anything was written.
use Rattle.std.specs.Prelude.{ℕ, Bool, not, ◌||◌, List}
use Rattle.sheet_layout.specs.declared.Shape.{Shape}
use Rattle.rule_ask.specs.Walk.{Ask, of_effect, of_stock, meets}
use Rattle.engine_lower.specs.Lower.{effect_to, stock_to}

-- the sheet so far, and whether anything was written
abbrev pub State : Type 0
State = List ℕ × Bool

abbrev pub sheet_of : State → List ℕ
sheet_of z = z.0

abbrev pub wrote_of : State → Bool
wrote_of z = z.1

-- the sheet s, lowered to what is asked
abbrev pub lowered_to : Shape → List ℕ → Ask → List ℕ
lowered_to x s (of_effect r w e) = effect_to s x w e
lowered_to x s (of_stock r w h) = stock_to s x w h

-- what is met already is not written
unfoldable pub lowers : Shape → Ask → State → State
lowers x a z = (lowered_to x (sheet_of z) a, wrote_of z || not (meets x (sheet_of z) a))
