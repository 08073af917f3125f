use mathlib.Core.Path.{sym, ◌∙◌}
use lib.Dec.{eqb}
use borrow.Author.Tests.{ltb-true}
use Rattle.words.proofs.Tests.{and_l, and_r}
use Rattle.effect.specs.Six.{effect_of}
use Rattle.effect.specs.Whole.{one_if, then_of}
use Rattle.graph_nodes.proofs.Cases.{own_step_means}
use Rattle.sheet.specs.Read.{effect_at}
use Rattle.rule_ask.specs.Gives.{stepped_in}
use Rattle.rule_ask.proofs.stepped.Goals as goal

pub stepped-requires : goal.stepped-requires
stepped-requires c =
    let block = c.lies_in-block.ensures.0 (and_l _ _ c.if-block-own.true) in
    (block.0, ltb-true _ _ (and_r c.lies_in-block.result _ c.if-block-own.true), block.1)

pub returns-then-block-own : goal.returns-then-block-own
unfolding stepped_in
returns-then-block-own c =
    let a = c.args in
    let e = (λ i. effect_of (λ k. one_if (eqb k (c.node_number-own.ensures.0 i)) c.own_step-step.result)) ∙ sym (own_step_means a.g.now.file.now a.g.now.tables a.n c.own_step-step.ensures) in
    c.stepped.ensures ∙ (λ i. then_of (effect_at a.s.now a.x.types (c.node_at-w.ensures i)) (e i))

pub returns : goal.returns
unfolding stepped_in
returns c = c.then.ensures.equals ∙ (λ i. then_of (c.node_effect.ensures i) (c.step.ensures i))
