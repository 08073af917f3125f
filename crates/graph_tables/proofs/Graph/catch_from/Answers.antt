use native.Mathlib.Nat.{add-zero}
use Rattle.graph_tables.specs.Fields.{catch_from}
use Rattle.graph_tables.proofs.Graph.catch_from.Goals as goal

pub returns : goal.returns
unfolding catch_from
returns c = rw add-zero at c.word_of.ensures
