-- The answers that name a node of the file, with its line.
use Rattle.std.specs.Prelude.{ℕ, List}
use Rattle.answer.specs.declared.Answer.{Answer}
use Rattle.answer.specs.declared.Answer.TheVariants.{BadNode, Overdrawn, Unfit, NoCallRow}
use Rattle.graph_tables.specs.declared.Tables.{Tables}
use Rattle.graph_tables.specs.Fields.{node_number, node_line}

-- 5: row k of the nodes is refused
abbrev pub bad_node_at : List ℕ → Tables → ℕ → Answer
bad_node_at f t k = BadNode k (node_line f t k)

-- 17: the node n is a call without a call row
abbrev pub no_call_row_at : List ℕ → Tables → ℕ → Answer
no_call_row_at f t n = NoCallRow n (node_line f t n)

-- 13: overdrawn at the draw n, whose number is its type
abbrev pub overdrawn_at : List ℕ → Tables → ℕ → Answer
overdrawn_at f t n = Overdrawn n (node_number f t n) (node_line f t n)

-- 14: the node n breaks the profile
abbrev pub unfit_at : List ℕ → Tables → ℕ → Answer
unfit_at f t n = Unfit n (node_line f t n)
