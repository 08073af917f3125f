use mathlib.Core.Path.{◌∙◌}
use native.Mathlib.Omega.{arith}
use Rattle.graph_tables.specs.declared.Table.TheVariants.{Flow}
use Rattle.graph_rows.proofs.Stretches.{to_within}
use Rattle.engine_flags.proofs.Flags.{still_able, sorted, call_inside}
use Rattle.engine_flags.proofs.wake_call.Goals as goal

pub wake_each-requires : goal.wake_each-requires
wake_each-requires c = (c.requires.0, rw c.flow_of.ensures (to_within _ _ Flow _))

pub flow_of-requires : goal.flow_of-requires
flow_of-requires c = sorted c.requires.0

pub wake-requires : goal.wake-requires
wake-requires c =
    let p = c.requires in
    omega (arith, c.call_method.ensures, (call_inside p.0 _ p.1).1, p.0.wide, c.wake_each.ensures.0.long)

pub wake_thrown-requires : goal.wake_thrown-requires
wake_thrown-requires c =
    let p = c.requires in
    (still_able p.0 (c.wake.ensures.0.long ∙ c.wake_each.ensures.0.long), rw c.call_node-n.ensures (call_inside p.0 _ p.1).2)
