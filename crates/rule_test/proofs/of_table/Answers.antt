use mathlib.Core.Path.{◌≡◌, refl, ap, ◌∙◌}
use native.Mathlib.Omega.{arith}
use Rattle.words.specs.Turn.{in_turn}
use Rattle.words.proofs.Turn.{turn_next}
use Rattle.rule_ask.specs.Walk.{row_walk, table_walk}
use Rattle.rule_test.specs.Keys.{lessened}
use Rattle.rule_test.proofs.of_table.Goals as goal

pub loop-k-init : goal.loop-k-init
unfolding in_turn
loop-k-init c = refl

pub loop-k-preserved : goal.loop-k-preserved
loop-k-preserved c =
    let a = c.args in
    turn_next (row_walk a.g.now.file.now a.g.now.tables a.x (λ v. a.s.now) (lessened a.x a.s.now) a.table) a.least c.loop-k.invariant c.of_row-key.ensures

pub returns : goal.returns
unfolding table_walk
returns c =
    let a = c.args in
    let q : c.loop-k.k ≡ c.rows-k-end.result = omega (arith, c.loop-k.auto.k-end, c.loop-k-test.false) in
    c.loop-k.invariant ∙ ap (λ n. in_turn (row_walk a.g.now.file.now a.g.now.tables a.x (λ v. a.s.now) (lessened a.x a.s.now) a.table) 0 n a.least) (q ∙ c.rows-k-end.ensures)
