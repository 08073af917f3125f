-- What a sweep leaves of a sheet: the walk over what the rows of a file ask, where each block is lowered to what is asked of it.
use Rattle.std.specs.Prelude.{ℕ, Bool, false, List}
use Rattle.graph_tables.specs.declared.Tables.{Tables}
use Rattle.sheet_layout.specs.declared.Shape.{Shape}
use Rattle.rule_ask.specs.Walk.{sheet_walk}
use Rattle.engine_row.specs.Lowers.{State, sheet_of, lowers}

-- all rules once, the rows of each table forwards or backwards
unfoldable pub sweep_of : List ℕ → Tables → Shape → Bool → List ℕ → State
sweep_of f t x backwards s = sheet_walk f t x sheet_of (lowers x) backwards (s, false)
