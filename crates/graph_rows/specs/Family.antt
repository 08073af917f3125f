-- Handlers catch whole families: which catch rows of a file apply to an exception.
use Rattle.std.specs.Prelude.{ℕ, ◌<◌, ◌≡◌, List}
use Rattle.graph_tables.specs.declared.Tables.{Tables}
use Rattle.graph_tables.specs.Fields.{catch_from, catch_exception}
use Rattle.graph_tables.specs.Family.{Nearest}

-- there is a catch row at node n for the exception e
abbrev pub HasRow : List ℕ → Tables → ℕ → ℕ → Type 0
HasRow f t n e = (k : ℕ) × (k < t.catches) × (catch_from f t k ≡ n) × (catch_exception f t k ≡ e)

-- "At a node, the catch rows of the thrown kind apply, or, if it has none, those of its nearest ancestor that has some": to the exception
-- e at node n the rows of c
abbrev pub Applies : List ℕ → Tables → ℕ → ℕ → ℕ → Type 0
Applies f t n = Nearest f t (HasRow f t n)
