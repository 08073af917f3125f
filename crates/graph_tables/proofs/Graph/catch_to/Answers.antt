use Rattle.graph_tables.specs.Fields.{catch_to}
use borrow.Author.Rules.{rules}
use Rattle.graph_tables.proofs.Graph.catch_to.Goals as goal

pub returns : goal.returns
unfolding catch_to
returns c = search rules
