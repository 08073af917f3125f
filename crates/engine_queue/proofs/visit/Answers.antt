use native.Mathlib.Omega.{arith}
use Rattle.rule_ready.proofs.Inside.{limit}
use Rattle.engine_queue.proofs.Moves.{visit_idle}
use Rattle.engine_queue.proofs.visit.Goals as goal

pub bounds-area-n : goal.bounds-area-n
bounds-area-n c =
    let p = c.requires in
    let q = c.of_node.ensures.moved.queue in
    omega (arith, p.1, (limit p.0.ready).nodes, q.wide)

pub returns : goal.returns
returns c = visit_idle c.args.n c.requires.1 c.of_node.result c.of_node.ensures c.if-of_node.false
