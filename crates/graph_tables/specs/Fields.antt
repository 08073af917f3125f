-- The fields of the tables' rows. Row k of a table stands k rows past the table's start.
use Rattle.std.specs.Prelude.{ℕ, ◌+◌, ◌*◌, List}
use Rattle.words.specs.Bytes.{byte_at, word_at}
use Rattle.graph_tables.specs.declared.Tables.{Tables}

-- methods: entry node
unfoldable pub entry_of : List ℕ → ℕ → ℕ
entry_of f m = word_at f (2 * m)

-- nodes: 8 bytes: method, kind, number, count (one byte each), rights, "the last two the source line, 0 for none"
unfoldable pub node_method : List ℕ → Tables → ℕ → ℕ
node_method f t n = byte_at f (t.nodesat + 8 * n)

unfoldable pub node_kind : List ℕ → Tables → ℕ → ℕ
node_kind f t n = byte_at f (t.nodesat + 8 * n + 1)

unfoldable pub node_number : List ℕ → Tables → ℕ → ℕ
node_number f t n = byte_at f (t.nodesat + 8 * n + 2)

unfoldable pub node_count : List ℕ → Tables → ℕ → ℕ
node_count f t n = byte_at f (t.nodesat + 8 * n + 3)

unfoldable pub node_rights : List ℕ → Tables → ℕ → ℕ
node_rights f t n = word_at f (t.nodesat + 8 * n + 4)

unfoldable pub node_line : List ℕ → Tables → ℕ → ℕ
node_line f t n = word_at f (t.nodesat + 8 * n + 6)

-- flow: from, to
unfoldable pub flow_from : List ℕ → Tables → ℕ → ℕ
flow_from f t k = word_at f (t.flowsat + 4 * k)

unfoldable pub flow_to : List ℕ → Tables → ℕ → ℕ
flow_to f t k = word_at f (t.flowsat + 4 * k + 2)

-- calls: node, method
unfoldable pub call_node : List ℕ → Tables → ℕ → ℕ
call_node f t k = word_at f (t.callsat + 4 * k)

unfoldable pub call_method : List ℕ → Tables → ℕ → ℕ
call_method f t k = word_at f (t.callsat + 4 * k + 2)

-- parents: a byte for each exception kind, "its parent, a lower number, or 255 for none"
unfoldable pub parent_of : List ℕ → Tables → ℕ → ℕ
parent_of f t e = byte_at f (t.parentsat + e)

-- catches: from, exception, to
unfoldable pub catch_from : List ℕ → Tables → ℕ → ℕ
catch_from f t k = word_at f (t.catchesat + 6 * k)

unfoldable pub catch_exception : List ℕ → Tables → ℕ → ℕ
catch_exception f t k = word_at f (t.catchesat + 6 * k + 2)

unfoldable pub catch_to : List ℕ → Tables → ℕ → ℕ
catch_to f t k = word_at f (t.catchesat + 6 * k + 4)

-- opening stock: rights, count
unfoldable pub opening_rights : List ℕ → Tables → ℕ → ℕ
opening_rights f t k = word_at f (t.openingat + 4 * k)

unfoldable pub opening_count : List ℕ → Tables → ℕ → ℕ
opening_count f t k = word_at f (t.openingat + 4 * k + 2)
