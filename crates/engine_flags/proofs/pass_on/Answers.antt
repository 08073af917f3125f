use native.Mathlib.Omega.{arith}
use Rattle.engine_flags.proofs.Flags.{call_inside}
use Rattle.engine_flags.proofs.pass_on.Goals as goal

pub bounds-area-called : goal.bounds-area-called
bounds-area-called c =
    let p = c.requires in
    omega (arith, c.call_method.ensures, (call_inside p.0 _ p.1).1, p.0.wide)

pub wake-requires : goal.wake-requires
wake-requires c =
    let p = c.requires in
    rw c.call_node-n.ensures (omega (arith, (call_inside p.0 _ p.1).0, p.0.wide))
