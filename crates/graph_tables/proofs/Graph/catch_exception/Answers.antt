use Rattle.graph_tables.specs.Fields.{catch_exception}
use borrow.Author.Rules.{rules}
use Rattle.graph_tables.proofs.Graph.catch_exception.Goals as goal

pub returns : goal.returns
unfolding catch_exception
returns c = search rules
