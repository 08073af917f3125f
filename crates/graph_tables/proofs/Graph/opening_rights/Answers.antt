use native.Mathlib.Nat.{add-zero}
use Rattle.graph_tables.specs.Fields.{opening_rights}
use Rattle.graph_tables.proofs.Graph.opening_rights.Goals as goal

pub returns : goal.returns
unfolding opening_rights
returns c = rw add-zero at c.word_of.ensures
