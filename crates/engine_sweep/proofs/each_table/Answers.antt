use mathlib.Core.Path.{ap, ◌∙◌}
use borrow.Author.Rules.{rules}
use Rattle.rule_ask.specs.Walk.{table_walk, tables_walk}
use Rattle.rule_ask.proofs.Tables.{table_is}
use Rattle.engine_row.specs.Lowers.{sheet_of, lowers}
use Rattle.engine_row.proofs.Turn.{turning_start, turning_more, turning_end}
use Rattle.engine_sweep.proofs.each_table.Goals as goal

pub loop-table-init : goal.loop-table-init
loop-table-init c = turning_start _ _ _ _ _

pub loop-table-preserved : goal.loop-table-preserved
loop-table-preserved c =
    let a = c.args in
    turning_more _ _ _ _ _ c.loop-table.invariant c.loop-table-test.true (search rules)
    (c.each_of-told.ensures ∙ ap (λ v. table_walk a.g.now.file.now a.g.now.tables a.x sheet_of (lowers a.x) a.backwards v (c.loop-table.s, c.loop-table.told)) (table_is _ c.loop-table.table-index c.loop-table-test.true))

pub returns : goal.returns
unfolding tables_walk
returns c = turning_end _ _ _ _ _ c.loop-table.invariant c.loop-table-test.false
