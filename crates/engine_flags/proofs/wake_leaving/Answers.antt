use Rattle.graph_tables.specs.declared.Table.TheVariants.{Catches}
use Rattle.graph_rows.proofs.Stretches.{to_within}
use Rattle.engine_flags.proofs.Flags.{sorted}
use Rattle.engine_flags.proofs.wake_leaving.Goals as goal

pub catches_of-handlers-requires : goal.catches_of-handlers-requires
catches_of-handlers-requires c = sorted c.requires.0

pub wake_each-requires : goal.wake_each-requires
wake_each-requires c = (c.requires.0, rw c.catches_of-handlers.ensures (to_within _ _ Catches _))
