-- What comes back of a graph file: numbers 1 to 9, 15 and 17, and 0.
use Rattle.std.specs.Prelude.{ℕ, cond, List, length, ltb}
use Rattle.answer.specs.declared.Answer.{Answer}
use Rattle.answer.specs.declared.Answer.TheVariants.{Pass, TooShort, BadCount, BadLength, BadEntry, BadFlow, BadCall, BadParent, BadCatch, BadOpening}
use Rattle.graph_tables.specs.declared.Tables.{Tables}
use Rattle.graph_tables.specs.Trailer.{tables_of}
use Rattle.graph_places.specs.Places.{bad_node_at, no_call_row_at}
use Rattle.graph_scan.specs.Scan.{refused}
use Rattle.graph_refuse.specs.Bad.{count_bad, length_bad, entry_bad, node_bad, flow_bad, call_bad, parent_bad, catch_bad, uncalled, opening_bad}

-- The first that applies, in this order, for a file whose trailer says t: 4 to 7, 15, 8, 17, 9,
unfoldable pub judge_rows : List ℕ → Tables → Answer
judge_rows f t =
    refused (entry_bad f t) t.methods BadEntry
    (refused (node_bad f t) t.nodes (bad_node_at f t)
    (refused (flow_bad f t) t.flows BadFlow
    (refused (call_bad f t) t.calls BadCall
    (refused (parent_bad f t) 8 BadParent
    (refused (catch_bad f t) t.catches BadCatch
    (refused (uncalled f t) t.nodes (no_call_row_at f t)
    (refused (opening_bad f t) t.types BadOpening
    Pass)))))))

-- and before them 1 to 3.
unfoldable pub judge_in : List ℕ → Tables → Answer
judge_in f t =
    cond (ltb (length f) 14) TooShort
    (refused (count_bad f) 6 BadCount
    (cond (length_bad f t) BadLength
    (judge_rows f t)))

abbrev pub judge_of : List ℕ → Answer
judge_of f = judge_in f (tables_of f)
