use borrow.Author.Rules.{rules}
use Rattle.engine_row.proofs.Turn.{turning_start, turning_more}
use Rattle.engine_row.proofs.all_thrown.Goals as goal

pub loop-e-init : goal.loop-e-init
loop-e-init c = turning_start _ _ _ _ _

pub loop-e-preserved : goal.loop-e-preserved
loop-e-preserved c = turning_more _ _ _ _ _ c.loop-e.invariant c.loop-e-test.true (search rules) c.thrown-told.ensures
