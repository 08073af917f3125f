use Rattle.graph_tables.specs.Fields.{node_kind}
use borrow.Author.Rules.{rules}
use Rattle.graph_tables.proofs.Graph.node_kind.Goals as goal

pub returns : goal.returns
unfolding node_kind
returns c = search rules
