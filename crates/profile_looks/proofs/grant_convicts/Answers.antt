use Rattle.profile_looks.proofs.grant_convicts.Goals as goal

pub returns : goal.returns
returns c =
    simp (
      c.is_kind-grants.ensures,
      c.node_method-method.ensures.0,
      c.node_count-count.ensures.0,
    )
