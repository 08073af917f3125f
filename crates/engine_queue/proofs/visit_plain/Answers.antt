use native.Mathlib.Omega.{arith}
use Rattle.graph_tables.specs.declared.Table.TheVariants.{Flow}
use Rattle.graph_rows.proofs.Stretches.{to_within}
use Rattle.rule_ready.proofs.Inside.{sorted, limit}
use Rattle.engine_queue.proofs.Moves.{plain_apart, plain_idle}
use Rattle.engine_queue.proofs.visit_plain.Goals as goal
use Rattle.engine_queue.proofs.visit_plain.Goals.{else-wrote-via-then-wrote+else-leads_back, else-wrote-via-else-wrote}

pub flow_of-z-requires : goal.flow_of-z-requires
flow_of-z-requires c = sorted c.requires.0.ready

pub each-wrote-requires : goal.each-wrote-requires
each-wrote-requires c = (c.requires.0, rw c.flow_of-z.ensures (to_within _ _ Flow _))

pub bounds-area-n : goal.bounds-area-n
bounds-area-n c =
    let p = c.requires in
    omega (arith, p.1, (limit p.0.ready).nodes, c.each-wrote.ensures.moved.queue.wide)

pub returns : goal.returns
returns c =
    let p = c.requires in
    let moved = rw c.flow_of-z.ensures at c.each-wrote.ensures in
    elim c.else-wrote.branch [
      | else-wrote-via-then-wrote+else-leads_back w ↦ plain_apart c.args.n p.1 p.2 c.each-wrote.result moved (rw c.flow_of-z.ensures at (w.leads_back.ensures w.if-leads_back.false))
      | else-wrote-via-else-wrote w ↦ plain_idle c.args.n p.1 p.2 c.each-wrote.result moved w.if-wrote.false
    ]
