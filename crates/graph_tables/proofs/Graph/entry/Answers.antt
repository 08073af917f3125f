use native.Mathlib.Nat.{add-zero, zero-add}
use Rattle.graph_tables.specs.Fields.{entry_of}
use Rattle.graph_tables.proofs.Graph.entry.Goals as goal

pub returns : goal.returns
unfolding entry_of
returns c = rw (add-zero, zero-add) at c.word_of.ensures
