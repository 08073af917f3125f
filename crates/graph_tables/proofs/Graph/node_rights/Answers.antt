use Rattle.graph_tables.specs.Fields.{node_rights}
use borrow.Author.Rules.{rules}
use Rattle.graph_tables.proofs.Graph.node_rights.Goals as goal

pub returns : goal.returns
unfolding node_rights
returns c = search rules
