use native.Mathlib.Omega.{arith}
use Rattle.engine_flags.proofs.Flags.{leads_inside}
use Rattle.engine_flags.proofs.wake_each.Goals as goal

pub wake-requires : goal.wake-requires
wake-requires c = rw c.target.ensures (omega (arith, leads_inside c.requires.0 c.args.table c.loop-j.j (omega (arith, c.requires.1, c.loop-j-test.true)), c.requires.0.wide, c.loop-j.invariant.0.long))
