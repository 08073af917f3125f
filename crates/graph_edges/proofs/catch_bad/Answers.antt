use Rattle.graph_refuse.specs.Bad.{catch_bad}
use Rattle.graph_edges.proofs.catch_bad.Goals as goal

pub returns : goal.returns
unfolding catch_bad
returns c =
    simp (
      c.catch_from-from.ensures,
      c.catch_exception-exception.ensures,
      c.catch_to-to.ensures,
      c.throws_other-other.ensures,
      c.node_method-a.ensures.0,
      c.node_method-b.ensures.0,
      c.catch_not_above-falls.ensures,
    )
