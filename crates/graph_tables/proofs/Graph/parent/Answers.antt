use native.Mathlib.Nat.{add-zero, one-mul}
use Rattle.graph_tables.specs.Fields.{parent_of}
use borrow.Author.Rules.{rules}
use Rattle.graph_tables.proofs.Graph.parent.Goals as goal

pub returns : goal.returns
unfolding parent_of
returns c = (rw (add-zero, one-mul) at c.byte_of.ensures.0, search rules)
