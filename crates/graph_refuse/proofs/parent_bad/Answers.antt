use Rattle.graph_refuse.specs.Bad.{parent_bad}
use Rattle.graph_refuse.proofs.parent_bad.Goals as goal

pub returns : goal.returns
unfolding parent_bad
returns c = simp c.parent-parent.ensures.0
