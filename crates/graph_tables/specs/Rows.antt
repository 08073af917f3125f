-- How many rows the tables have. The trailer's counts are seen as one more table.
use Rattle.std.specs.Prelude.{ℕ}
use Rattle.graph_tables.specs.declared.Tables.{Tables}
use Rattle.graph_tables.specs.declared.Table.{Table}
use Rattle.graph_tables.specs.declared.Table.TheVariants.{Trailer, Methods, Nodes, Flow, Calls, Parents, Catches, Opening}

abbrev pub rows_of : Tables → Table → ℕ
rows_of t Trailer = 6
rows_of t Methods = t.methods
rows_of t Nodes = t.nodes
rows_of t Flow = t.flows
rows_of t Calls = t.calls
rows_of t Parents = 8
rows_of t Catches = t.catches
rows_of t Opening = t.types
