use mathlib.Core.Bool.{false}
use Rattle.engine_queue.proofs.Enters.{entered_start, entered_more}
use Rattle.engine_queue.proofs.enter.Goals as goal

pub loop-m-init : goal.loop-m-init
loop-m-init c = entered_start c.requires false c.at_start.result (rw c.blank.ensures at c.at_start.ensures)

pub loop-m-preserved : goal.loop-m-preserved
loop-m-preserved c = entered_more false c.at_entry.result c.loop-m-test.true c.loop-m.invariant c.at_entry.ensures
