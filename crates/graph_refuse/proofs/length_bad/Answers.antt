use Rattle.graph_refuse.specs.Bad.{length_bad}
use Rattle.graph_refuse.proofs.length_bad.Goals as goal

pub returns : goal.returns
unfolding length_bad
returns c = simp c.trailer_word-distance.ensures
