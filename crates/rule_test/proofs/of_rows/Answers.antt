use Prim.Native.Nat.{◌-◌}
use mathlib.Core.Path.{◌≡◌, refl, ap, ◌∙◌}
use native.Mathlib.Omega.{arith}
use Rattle.words.specs.Turn.{in_turn}
use Rattle.words.proofs.Turn.{turn_more}
use Rattle.graph_rows.specs.Rows.{target_of}
use Rattle.sheet_layout.specs.Layout.{node_at}
use Rattle.rule_ask.specs.Walk.{of_effect, rows_walk}
use Rattle.rule_test.specs.Keys.{lessened}
use Rattle.rule_test.proofs.of_rows.Goals as goal

pub loop-j-init : goal.loop-j-init
unfolding in_turn
loop-j-init c =
    let q : c.args.z.from - c.args.z.from ≡ 0 = omega arith in
    (omega arith, omega arith, rw q refl)

pub loop-j-preserved : goal.loop-j-preserved
loop-j-preserved c =
    let a = c.args in (
      omega (arith, c.loop-j.invariant.0),
      omega (arith, c.loop-j.invariant.0, c.loop-j-test.true),
      turn_more (λ k. lessened a.x a.s.now (of_effect a.rule (node_at a.x (target_of a.g.now.file.now a.g.now.tables a.table k)) a.e)) a.z.from a.least
          c.loop-j.invariant.0 c.loop-j.invariant.2
          c.at_target-key.ensures,
    )

pub returns : goal.returns
unfolding rows_walk
returns c =
    let a = c.args in
    let q : c.loop-j.j - a.z.from ≡ a.z.to - a.z.from = omega (arith, c.loop-j.invariant.0, c.loop-j.invariant.1, c.loop-j-test.false) in
    c.loop-j.invariant.2 ∙ ap (λ n. in_turn (λ k. lessened a.x a.s.now (of_effect a.rule (node_at a.x (target_of a.g.now.file.now a.g.now.tables a.table k)) a.e)) a.z.from n a.least) q
