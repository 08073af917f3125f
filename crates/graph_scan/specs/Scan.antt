-- What is refused of the tables, and of the trailer's counts as one more.
use Rattle.std.specs.Prelude.{ℕ, Bool, cond, List, ltb, Result, Ok, Err}
use Rattle.words.specs.Lowest.{lowest}
use Rattle.answer.specs.declared.Answer.{Answer}
use Rattle.answer.specs.declared.Answer.TheVariants.{BadCount, BadEntry, BadFlow, BadCall, BadParent, BadCatch, BadOpening}
use Rattle.graph_tables.specs.declared.Tables.{Tables}
use Rattle.graph_tables.specs.declared.Table.{Table}
use Rattle.graph_tables.specs.declared.Table.TheVariants.{Trailer, Methods, Nodes, Flow, Calls, Parents, Catches, Opening}
use Rattle.graph_places.specs.Places.{bad_node_at}
use Rattle.graph_refuse.specs.Bad.{count_bad, entry_bad, node_bad, flow_bad, call_bad, parent_bad, catch_bad, opening_bad}

-- within a table the lowest row; where no row is refused, what comes next
abbrev pub refused : (ℕ → Bool) → ℕ → (ℕ → Answer) → Answer → Answer
refused bad rows answer next = cond (ltb (lowest bad rows) rows) (answer (lowest bad rows)) next

-- the refusal, and where there is none, what comes next
abbrev pub refusal_or : Result (Unit {0}) Answer → Answer → Answer
refusal_or (Ok _) next = next
refusal_or (Err a) next = a

-- which rows of the table are refused
abbrev pub row_bad : List ℕ → Tables → Table → ℕ → Bool
row_bad f t Trailer = count_bad f
row_bad f t Methods = entry_bad f t
row_bad f t Nodes = node_bad f t
row_bad f t Flow = flow_bad f t
row_bad f t Calls = call_bad f t
row_bad f t Parents = parent_bad f t
row_bad f t Catches = catch_bad f t
row_bad f t Opening = opening_bad f t

-- the answer that names the row
abbrev pub bad_row : List ℕ → Tables → Table → ℕ → Answer
bad_row f t Trailer k = BadCount k
bad_row f t Methods k = BadEntry k
bad_row f t Nodes k = bad_node_at f t k
bad_row f t Flow k = BadFlow k
bad_row f t Calls k = BadCall k
bad_row f t Parents k = BadParent k
bad_row f t Catches k = BadCatch k
bad_row f t Opening k = BadOpening k

-- The first stage of the judge, methods to catches: 4 to 7, 15, 8, and where none applies, what comes next.
unfoldable pub judge_tables : List ℕ → Tables → Answer → Answer
judge_tables f t next =
    refused (entry_bad f t) t.methods BadEntry
    (refused (node_bad f t) t.nodes (bad_node_at f t)
    (refused (flow_bad f t) t.flows BadFlow
    (refused (call_bad f t) t.calls BadCall
    (refused (parent_bad f t) 8 BadParent
    (refused (catch_bad f t) t.catches BadCatch
    next)))))
