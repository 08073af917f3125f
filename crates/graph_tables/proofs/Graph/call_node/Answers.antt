use native.Mathlib.Nat.{add-zero}
use Rattle.graph_tables.specs.Fields.{call_node}
use Rattle.graph_tables.proofs.Graph.call_node.Goals as goal

pub returns : goal.returns
unfolding call_node
returns c = rw add-zero at c.word_of.ensures
