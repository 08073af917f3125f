-- The rows of one node, and those that apply to an exception there.
use Rattle.std.specs.Prelude.{ℕ, ◌+◌, ◌-◌, ◌*◌, ◌<◌, ◌≤◌, Bool, not, List, leb}
use Rattle.words.specs.Lowest.{lowest}
use Rattle.words.specs.Turn.{in_turn}
use Rattle.graph_tables.specs.declared.Tables.{Tables}
use Rattle.graph_tables.specs.declared.Table.{Table}
use Rattle.graph_tables.specs.declared.Table.TheVariants.{Trailer, Methods, Nodes, Flow, Calls, Parents, Catches, Opening}
use Rattle.graph_tables.specs.Rows.{rows_of}
use Rattle.graph_tables.specs.Fields.{entry_of, flow_from, flow_to, call_node, catch_from, catch_exception, catch_to}
use Rattle.graph_tables.specs.Family.{nearest}
use Rattle.graph_rows.specs.declared.Stretch.{Stretch}

-- one number for a node and an exception, which is at most 7
abbrev pub catch_key : ℕ → ℕ → ℕ
catch_key n e = 8 * n + e

-- what the rows of a node share: the node, in the catches with the exception; a row of another table goes by its own number
abbrev pub key_of : List ℕ → Tables → Table → ℕ → ℕ
key_of f t Trailer k = k
key_of f t Methods k = k
key_of f t Nodes k = k
key_of f t Flow k = flow_from f t k
key_of f t Calls k = call_node f t k
key_of f t Parents k = k
key_of f t Catches k = catch_key (catch_from f t k) (catch_exception f t k)
key_of f t Opening k = k

-- from one row of the table to a later one the key never falls; and so in every table
abbrev pub Rises : List ℕ → Tables → Table → Type 0
Rises f t table = (i k : ℕ) → i ≤ k → k < rows_of t table → key_of f t table i ≤ key_of f t table k

abbrev pub Sorted : List ℕ → Tables → Type 0
Sorted f t = (table : Table) → Rises f t table

-- the lowest row whose key is at least x
unfoldable pub first_row : List ℕ → Tables → Table → ℕ → ℕ
first_row f t table x = lowest (λ k. leb x (key_of f t table k)) (rows_of t table)

-- the rows with key x: from the lowest whose key is at least x up to the lowest whose key is at least x + 1
unfoldable pub stretch_of : List ℕ → Tables → Table → ℕ → Stretch
stretch_of f t table x = record { from = first_row f t table x; to = first_row f t table (x + 1) }

-- the flow rows from node n, the call rows at node n, the catch rows at node n for the exception e itself
abbrev pub flow_of : List ℕ → Tables → ℕ → Stretch
flow_of f t n = stretch_of f t Flow n

abbrev pub calls_of : List ℕ → Tables → ℕ → Stretch
calls_of f t n = stretch_of f t Calls n

abbrev pub own_of : List ℕ → Tables → ℕ → ℕ → Stretch
own_of f t n e = stretch_of f t Catches (catch_key n e)

-- no row is in the stretch
abbrev pub no_rows : Stretch → Bool
no_rows s = leb s.to s.from

-- the exception e has catch rows of its own at node n
unfoldable pub has_own : List ℕ → Tables → ℕ → ℕ → Bool
has_own f t n e = not (no_rows (own_of f t n e))

-- the catch rows that apply to the exception e at node n: those of the nearest, of e and its ancestors, that has some
abbrev pub catches_of : List ℕ → Tables → ℕ → ℕ → Stretch
catches_of f t n e = own_of f t n (nearest f t (has_own f t n) e)

-- no catch row applies to the exception e at the node n
abbrev pub uncaught_of : List ℕ → Tables → ℕ → ℕ → Bool
uncaught_of f t n e = no_rows (catches_of f t n e)

-- the node that row k leads to: an entry node, the end of a flow row, a handler; 0 in the tables that lead to no node
abbrev pub target_of : List ℕ → Tables → Table → ℕ → ℕ
target_of f t Trailer k = 0
target_of f t Methods k = entry_of f k
target_of f t Nodes k = 0
target_of f t Flow k = flow_to f t k
target_of f t Calls k = 0
target_of f t Parents k = 0
target_of f t Catches k = catch_to f t k
target_of f t Opening k = 0

-- each row's step, in turn
abbrev pub each_in : {A : Type 0} → (ℕ → A → A) → Stretch → A → A
each_in act s = in_turn act s.from (s.to - s.from)
