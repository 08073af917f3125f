use Rattle.graph_refuse.specs.Bad.{call_bad}
use Rattle.graph_edges.proofs.call_bad.Goals as goal

pub returns : goal.returns
unfolding call_bad
returns c =
    simp (
      c.call_node-node.ensures,
      c.call_method-method.ensures,
      c.is_kind-calls.ensures,
      c.call_not_above-falls.ensures,
    )
