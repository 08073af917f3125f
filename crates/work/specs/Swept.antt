-- Sweeps, one after the other.
use Rattle.std.specs.Prelude.{ℕ, ◌≡◌, Bool, false, List}
use Rattle.graph_tables.specs.declared.Tables.{Tables}
use Rattle.sheet_layout.specs.declared.Shape.{Shape}
use Rattle.engine_row.specs.Lowers.{sheet_of, wrote_of}
use Rattle.engine_sweep.specs.Sweep.{sweep_of}

-- the sheet r is what some number of sweeps leave of s
pub data Swept (f : List ℕ) (t : Tables) (x : Shape) (s : List ℕ) : List ℕ → Type 0 where
  unswept : Swept f t x s s
  again : {r : List ℕ} → (backwards : Bool) → Swept f t x s r → Swept f t x s (sheet_of (sweep_of f t x backwards r))

-- and one more would write nothing
pub record Settled (f : List ℕ) (t : Tables) (x : Shape) (s r : List ℕ) : Type 0 where
  pub swept : Swept f t x s r
  pub backwards : Bool
  pub content : wrote_of (sweep_of f t x backwards r) ≡ false
