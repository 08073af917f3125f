use Rattle.graph_refuse.specs.Bad.{flow_bad}
use Rattle.graph_edges.proofs.flow_bad.Goals as goal

pub returns : goal.returns
unfolding flow_bad
returns c =
    simp (
      c.flow_from-from.ensures,
      c.flow_to-to.ensures,
      c.is_kind-returns.ensures,
      c.is_kind-throws.ensures,
      c.node_method-a.ensures.0,
      c.node_method-b.ensures.0,
      c.flow_not_above-falls.ensures,
    )
