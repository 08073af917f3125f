use native.Mathlib.Nat.{add-zero}
use Rattle.graph_tables.specs.Fields.{flow_from}
use Rattle.graph_tables.proofs.Graph.flow_from.Goals as goal

pub returns : goal.returns
unfolding flow_from
returns c = rw add-zero at c.word_of.ensures
