use Rattle.profile_looks.specs.Looks.{is_draw}
use Rattle.profile_looks.proofs.is_draw.Goals as goal

pub returns : goal.returns
unfolding is_draw
returns c = simp c.is_kind.ensures
