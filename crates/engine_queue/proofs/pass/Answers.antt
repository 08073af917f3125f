use native.Mathlib.Omega.{arith}
use Rattle.rule_ready.proofs.Inside.{limit}
use Rattle.engine_queue.proofs.pass.Goals as goal

pub next-requires : goal.next-requires
next-requires c =
    let few = (limit c.requires.ready).nodes in
    (c.loop-k.invariant.0, omega (arith, few, c.loop-k.invariant.1.queue.wide), few)
