-- What the nodes of a file do to a stock, and the stock that a run starts with.
use Rattle.std.specs.Prelude.{ℕ, Bool, true, false, cond, List, ltb, leb, eqb}
use Rattle.effect.specs.declared.Stock.{Stock}
use Rattle.effect.specs.Six.{six}
use Rattle.model.specs.Stocks.{Does, plain, grant, draw}
use Rattle.graph_tables.specs.declared.Tables.{Tables}
use Rattle.graph_tables.specs.Kinds.{grant_kind, draw_kind}
use Rattle.graph_tables.specs.Fields.{node_kind, node_number, node_count, node_rights, opening_rights, opening_count}

abbrev pub does_if : Bool → Does → Does → Does
does_if true a b = a
does_if false a b = b

-- "1 grant (number = resource type), 2 draw (number = type)"; "Grant uses all three fields, draw number and rights"
unfoldable pub does_in : List ℕ → Tables → ℕ → Does
does_in f t n =
    does_if (leb t.nodes n) plain
    (does_if (eqb (node_kind f t n) grant_kind) (grant (node_number f t n) (node_rights f t n) (node_count f t n))
    (does_if (eqb (node_kind f t n) draw_kind) (draw (node_number f t n) (node_rights f t n)) plain))

-- "opening stock: rights, count": a number for each type that the file has, 0 for the others
abbrev pub for_type : Tables → (ℕ → ℕ) → ℕ → ℕ
for_type t row k = cond (ltb k t.types) (row k) 0

unfoldable pub opening_in : List ℕ → Tables → Stock
opening_in f t = record { rights = six (for_type t (opening_rights f t)); counts = six (for_type t (opening_count f t)) }
