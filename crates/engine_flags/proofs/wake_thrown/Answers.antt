use Rattle.engine_flags.proofs.Flags.{woken_more, leaves_more, no_handlers}
use Rattle.engine_flags.proofs.wake_thrown.Goals as goal

pub returns-then-g-eq0 : goal.returns-then-g-eq0
returns-then-g-eq0 c =
    let a = c.args in
    (c.wake_exits.ensures.0, λ e l. no_handlers a.g.now.file.now a.g.now.tables _ a.n e c.if-g-eq0.true c.wake_exits.ensures.1)

pub loop-e-preserved : goal.loop-e-preserved
loop-e-preserved c =
    let inv = c.loop-e.invariant in
    let woke = c.wake_leaving.ensures in
    let a = c.args in (
      woken_more inv.0 woke.0,
      leaves_more a.g.now.file.now a.g.now.tables a.n woke.0 inv.1 woke.1,
    )
