use mathlib.Core.Path.{ap, ◌∙◌}
use native.Mathlib.Omega.{arith}
use borrow.Author.Rules.{rules}
use Rattle.sheet_layout.specs.Layout.{node_at}
use Rattle.rule_ask.specs.Walk.{of_effect, rows_walk}
use Rattle.engine_row.specs.Lowers.{lowers}
use Rattle.engine_row.proofs.Turn.{turning_start, turning_more, turning_end}
use Rattle.rule_ready.proofs.Inside.{few_types, node_inside, leads_inside, still_ready}
use Rattle.engine_row.proofs.each_row.Goals as goal

pub loop-j-init : goal.loop-j-init
loop-j-init c rule = turning_start _ _ _ _ _

pub take_effect-told-requires : goal.take_effect-told-requires
take_effect-told-requires c =
    let r = still_ready {q = c.loop-j.s} c.requires.0 (c.loop-j.invariant 0).long in
    (rw (c.node_at-w.ensures, c.target.ensures) (node_inside r _ (leads_inside r c.args.table _ (omega (arith, c.requires.1, c.loop-j-test.true)))), few_types r)

pub loop-j-preserved : goal.loop-j-preserved
loop-j-preserved c =
    let a = c.args in
    let w = c.node_at-w.ensures ∙ ap (node_at a.x) c.target.ensures in
    λ rule.
    turning_more _ _ _ _ _ (c.loop-j.invariant rule) c.loop-j-test.true (search rules)
    (c.take_effect-told.ensures rule ∙ ap (λ v. lowers a.x (of_effect rule v a.e) (c.loop-j.s, c.loop-j.told)) w)

pub returns : goal.returns
unfolding rows_walk
returns c = λ rule. turning_end _ _ _ _ _ (c.loop-j.invariant rule) c.loop-j-test.false
