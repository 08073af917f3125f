use Rattle.graph_tables.specs.Fields.{node_number}
use borrow.Author.Rules.{rules}
use Rattle.graph_tables.proofs.Graph.node_number.Goals as goal

pub returns : goal.returns
unfolding node_number
returns c = search rules
