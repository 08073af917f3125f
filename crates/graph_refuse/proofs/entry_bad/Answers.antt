use Rattle.graph_refuse.specs.Bad.{entry_bad}
use Rattle.graph_refuse.proofs.entry_bad.Goals as goal

pub returns : goal.returns
unfolding entry_bad
returns c = simp (c.entry-entry.ensures, c.node_method-method.ensures.0)
