use Rattle.profile_looks.specs.Looks.{asks}
use Rattle.profile_looks.proofs.asks.Goals as goal

pub returns : goal.returns
unfolding asks
returns c =
    simp (
      c.is_kind-grants.ensures,
      c.node_number-granted.ensures.0,
      c.node_number-drawn.ensures.0,
      c.node_rights-given.ensures,
      c.node_rights-needed.ensures,
      c.node_count-count.ensures.0,
    )
