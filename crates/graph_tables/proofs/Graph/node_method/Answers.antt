use native.Mathlib.Nat.{add-zero}
use Rattle.graph_tables.specs.Fields.{node_method}
use borrow.Author.Rules.{rules}
use Rattle.graph_tables.proofs.Graph.node_method.Goals as goal

pub returns : goal.returns
unfolding node_method
returns c = (rw add-zero at c.byte_of.ensures.0, search rules)
