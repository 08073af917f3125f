use Rattle.graph_tables.specs.Fields.{node_count}
use borrow.Author.Rules.{rules}
use Rattle.graph_tables.proofs.Graph.node_count.Goals as goal

pub returns : goal.returns
unfolding node_count
returns c = search rules
