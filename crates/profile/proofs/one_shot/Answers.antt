use Rattle.profile.proofs.OneShot.{safe}
use Rattle.profile.proofs.one_shot.Goals as goal

pub returns : goal.returns
returns c = record { means = c.profiled.ensures; safe = safe c.args.f.now c.profiled.ensures }
