use mathlib.Core.Path.{ap, ◌∙◌}
use native.Mathlib.Omega.{arith}
use borrow.Author.Rules.{rules}
use Rattle.rule_ask.specs.Gives.{turned}
use Rattle.rule_ask.specs.Walk.{row_walk, table_walk}
use Rattle.engine_row.specs.Lowers.{sheet_of, lowers}
use Rattle.engine_row.proofs.Turn.{turning_start, turning_more, turning_all}
use Rattle.engine_sweep.proofs.each_of.Goals as goal

pub loop-k-init : goal.loop-k-init
loop-k-init c = turning_start _ _ _ _ _

pub loop-k-preserved : goal.loop-k-preserved
loop-k-preserved c =
    let n = c.rows-n.ensures in
    let a = c.args in
    turning_more _ _ _ _ _ c.loop-k.invariant (omega (arith, c.loop-k-test.true, n)) (search rules)
    (c.row-told.ensures
    ∙ ap (λ v. row_walk a.g.now.file.now a.g.now.tables a.x sheet_of (lowers a.x) a.table v (c.loop-k.s, c.loop-k.told))
    (c.at_step.ensures ∙ ap (λ v. turned a.backwards v c.loop-k.k) n))

pub returns : goal.returns
unfolding table_walk
returns c = turning_all _ _ _ _ c.loop-k.invariant (omega (arith, c.loop-k-test.false, c.rows-n.ensures))
