use Rattle.graph_tables.specs.Fields.{node_line}
use borrow.Author.Rules.{rules}
use Rattle.graph_tables.proofs.Graph.node_line.Goals as goal

pub returns : goal.returns
unfolding node_line
returns c = search rules
