use Rattle.graph_tables.specs.Fields.{call_method}
use borrow.Author.Rules.{rules}
use Rattle.graph_tables.proofs.Graph.call_method.Goals as goal

pub returns : goal.returns
unfolding call_method
returns c = search rules
