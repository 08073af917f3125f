use Rattle.graph_refuse.specs.Bad.{count_bad}
use Rattle.graph_refuse.proofs.count_bad.Goals as goal

pub returns : goal.returns
unfolding count_bad
returns c = simp (c.trailer_word-n.ensures, c.limit.ensures, c.limit-2.ensures)
