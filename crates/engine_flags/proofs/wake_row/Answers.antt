use native.Mathlib.Omega.{arith}
use Rattle.graph_tables.specs.declared.Table.TheVariants.{Methods, Flow}
use Rattle.engine_flags.proofs.Flags.{leads_inside}
use Rattle.engine_flags.proofs.wake_row.Goals as goal

pub wake-requires : goal.wake-requires
wake-requires c =
    let p = c.requires in
    rw c.entry.ensures (omega (arith, leads_inside p.0 Methods _ (rw c.in-Methods.is at p.1), p.0.wide))

pub wake-requires-in-Flow : goal.wake-requires-in-Flow
wake-requires-in-Flow c =
    let p = c.requires in
    rw c.flow_to.ensures (omega (arith, leads_inside p.0 Flow _ (rw c.in-Flow.is at p.1), p.0.wide))
