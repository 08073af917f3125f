use Prim.Native.Nat.{ℕ}
use mathlib.Core.Path.{◌≡◌, refl, ap, ◌∙◌}
use mathlib.Core.Bool.{false}
use native.Mathlib.Omega.{arith}
use Rattle.words.specs.Turn.{in_turn}
use Rattle.words.proofs.Turn.{turn_next}
use Rattle.rule_ask.specs.Gives.{table_at}
use Rattle.rule_ask.specs.Walk.{table_walk, tables_walk}
use Rattle.rule_ask.proofs.Tables.{table_is}
use Rattle.rule_test.specs.Keys.{lessened}
use Rattle.rule_test.proofs.of_tables.Goals as goal

pub loop-table-init : goal.loop-table-init
unfolding in_turn
loop-table-init c = refl

pub loop-table-preserved : goal.loop-table-preserved
loop-table-preserved c =
    let a = c.args in
    let act : ℕ → ℕ → ℕ = λ i. table_walk a.g.now.file.now a.g.now.tables a.x (λ v. a.s.now) (lessened a.x a.s.now) false (table_at i) in
    turn_next act a.least c.loop-table.invariant
    (c.of_table-key.ensures ∙ ap (λ v. table_walk a.g.now.file.now a.g.now.tables a.x (λ v. a.s.now) (lessened a.x a.s.now) false v c.loop-table.key) (table_is _ c.loop-table.table-index c.loop-table-test.true))

pub returns : goal.returns
unfolding tables_walk
returns c =
    let a = c.args in
    let q : c.loop-table.table-index ≡ 4 = omega (arith, c.loop-table.auto.table-index-end, c.loop-table-test.false) in
    c.loop-table.invariant ∙ ap (λ n. in_turn (λ i. table_walk a.g.now.file.now a.g.now.tables a.x (λ v. a.s.now) (lessened a.x a.s.now) false (table_at i)) 0 n a.least) q
