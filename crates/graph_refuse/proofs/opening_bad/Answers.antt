use Rattle.graph_refuse.specs.Bad.{opening_bad}
use Rattle.graph_refuse.proofs.opening_bad.Goals as goal

pub returns : goal.returns
unfolding opening_bad
returns c = cc
