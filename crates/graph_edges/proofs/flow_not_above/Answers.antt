use borrow.Author.Tests.{eq-eqb, ne_eqb}
use Rattle.graph_edges.proofs.Above.{two_above}
use Rattle.graph_refuse.specs.Bad.{not_above, flow_row}
use Rattle.graph_edges.proofs.flow_not_above.Goals as goal

pub returns-then-k-ne0 : goal.returns-then-k-ne0
unfolding not_above flow_row
returns-then-k-ne0 c = simp (ne_eqb _ _ c.if-k-ne0.true, c.le.ensures, c.flow_row.ensures, c.flow_row-then-k-ne0.ensures, two_above)

pub returns-else-k-ne0 : goal.returns-else-k-ne0
unfolding not_above
returns-else-k-ne0 c = simp (eq-eqb _ _ c.if-k-ne0.false)
