use Rattle.graph_tables.specs.Fields.{flow_to}
use borrow.Author.Rules.{rules}
use Rattle.graph_tables.proofs.Graph.flow_to.Goals as goal

pub returns : goal.returns
unfolding flow_to
returns c = search rules
