use Rattle.graph_tables.specs.Fields.{opening_count}
use borrow.Author.Rules.{rules}
use Rattle.graph_tables.proofs.Graph.opening_count.Goals as goal

pub returns : goal.returns
unfolding opening_count
returns c = search rules
