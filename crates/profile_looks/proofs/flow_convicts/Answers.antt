use Rattle.profile_looks.proofs.flow_convicts.Goals as goal

pub returns : goal.returns
returns c =
    simp (
      c.is_draw.ensures,
      c.asks.ensures,
      c.flow_from-from.ensures,
      c.flow_to-to.ensures,
    )
