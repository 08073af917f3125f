-- The graph that a file's bytes say. It is defined for any bytes; of a file that passes it is well formed.
use Rattle.std.specs.Prelude.{◌≡◌, List, ℕ, ◌<◌, ◌≤◌}
use Rattle.model.specs.Machine.{Graph}
use Rattle.graph_tables.specs.declared.Tables.{Tables}
use Rattle.graph_tables.specs.Trailer.{tables_of}
use Rattle.graph_tables.specs.Kinds.{draw_kind, call_kind, return_kind, throw_kind}
use Rattle.graph_tables.specs.Fields.{entry_of, node_method, node_kind, node_number, node_count, flow_from, flow_to, call_node, call_method, catch_from, catch_exception, catch_to}
use Rattle.graph_rows.specs.Family.{Applies}

-- some row of the flow, of the calls, of the catches says so
abbrev pub FlowRow : List ℕ → Tables → ℕ → ℕ → Type 0
FlowRow f t a b = (k : ℕ) × (k < t.flows) × (flow_from f t k ≡ a) × (flow_to f t k ≡ b)

abbrev pub CallRow : List ℕ → Tables → ℕ → ℕ → Type 0
CallRow f t c m = (k : ℕ) × (k < t.calls) × (call_node f t k ≡ c) × (call_method f t k ≡ m)

abbrev pub CatchRow : List ℕ → Tables → ℕ → ℕ → ℕ → Type 0
CatchRow f t a e b = (k : ℕ) × (k < t.catches) × (catch_from f t k ≡ a) × (catch_exception f t k ≡ e) × (catch_to f t k ≡ b)

-- some row of the catches applies to the exception e, one of the eight, at the node a, and leads to b
abbrev pub FamilyRow : List ℕ → Tables → ℕ → ℕ → ℕ → Type 0
FamilyRow f t a e b = (k : ℕ) × (k < t.catches) × (catch_from f t k ≡ a) × Applies f t a e (catch_exception f t k) × (catch_to f t k ≡ b) × (e < 8)

-- node n stands in the table and has the kind
abbrev pub OfKind : List ℕ → Tables → ℕ → ℕ → Type 0
OfKind f t kind n = (n < t.nodes) × (node_kind f t n ≡ kind)

abbrev pub graph_in : List ℕ → Tables → Graph
graph_in f t =
    record {
      methods = t.methods;
      nodes = t.nodes;
      entry = entry_of f;
      method = node_method f t;
      repeats = node_count f t;
      Goes = λ n. (n < t.nodes) × (node_kind f t n ≤ draw_kind);
      Call = OfKind f t call_kind;
      Return = OfKind f t return_kind;
      Throw = λ n e. OfKind f t throw_kind n × (node_number f t n ≡ e);
      Flow = FlowRow f t;
      Calls = CallRow f t;
      Catch = FamilyRow f t;
    }

abbrev pub graph_of : List ℕ → Graph
graph_of f = graph_in f (tables_of f)
