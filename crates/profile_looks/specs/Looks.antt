-- Which nodes the rows of a table convict, computed. A look is at one table.
use Rattle.std.specs.Prelude.{ℕ, min, Bool, cond, ◌&&◌, not, List, eqb}
use Rattle.std.specs.Int.Bits.{bit_and}
use Rattle.words.specs.Least.{least_of}
use Rattle.graph_tables.specs.declared.Tables.{Tables}
use Rattle.graph_tables.specs.Kinds.{grant_kind, draw_kind}
use Rattle.graph_tables.specs.Fields.{entry_of, node_method, node_kind, node_number, node_count, node_rights, flow_from, flow_to, call_node, call_method, catch_to}
use Rattle.profile_looks.specs.declared.Look.{Look}
use Rattle.profile_looks.specs.declared.Look.TheVariants.{Flow, Entry, Catch, Grant, Call}
use Rattle.profile_looks.specs.declared.Profile.{Profile}
use Rattle.profile_looks.specs.declared.Profile.TheVariants.{OneShot, Session}

-- how many rows the table has
abbrev pub rows_of : Tables → Look → ℕ
rows_of t Flow = t.flows
rows_of t Entry = t.methods
rows_of t Catch = t.catches
rows_of t Grant = t.nodes
rows_of t Call = t.calls

-- the node that row k speaks of
abbrev pub node_of : List ℕ → Tables → Look → ℕ → ℕ
node_of f t Flow k = flow_to f t k
node_of f t Entry k = entry_of f k
node_of f t Catch k = catch_to f t k
node_of f t Grant k = k
node_of f t Call k = call_node f t k

unfoldable pub is_draw : List ℕ → Tables → ℕ → Bool
is_draw f t n = eqb (node_kind f t n) draw_kind

-- node g is a grant of the draw d's type, with the draw's rights among its own and a count of exactly 1
unfoldable pub asks : List ℕ → Tables → ℕ → ℕ → Bool
asks f t g d =
    eqb (node_kind f t g) grant_kind
    && eqb (node_number f t g) (node_number f t d)
    && eqb (bit_and (node_rights f t d) (node_rights f t g)) (node_rights f t d)
    && eqb (node_count f t g) 1

-- whether row k convicts that node
abbrev pub convicts : List ℕ → Tables → Look → ℕ → Bool
convicts f t Flow k = is_draw f t (flow_to f t k) && not (asks f t (flow_from f t k) (flow_to f t k))
convicts f t Entry k = is_draw f t (entry_of f k)
convicts f t Catch k = is_draw f t (catch_to f t k)
convicts f t Grant k = eqb (node_kind f t k) grant_kind && not (eqb (node_method f t k) 0 && eqb (node_count f t k) 255)
convicts f t Call k = eqb (call_method f t k) 0

-- the node that row k convicts, or how many nodes there are
unfoldable pub convicted : List ℕ → Tables → Look → ℕ → ℕ
convicted f t look k = cond (convicts f t look k) (node_of f t look k) t.nodes

-- the lowest node that a row convicts, or how many nodes there are
unfoldable pub lowest_of : List ℕ → Tables → Look → ℕ
lowest_of f t look = least_of t.nodes (convicted f t look) (rows_of t look)

-- the lowest node that a look of the profile convicts, or how many nodes there are
abbrev pub breaking : List ℕ → Tables → Profile → ℕ
breaking f t OneShot = min (lowest_of f t Flow) (min (lowest_of f t Entry) (lowest_of f t Catch))
breaking f t Session = min (lowest_of f t Grant) (lowest_of f t Call)
