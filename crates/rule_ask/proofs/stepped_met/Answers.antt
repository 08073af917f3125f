use mathlib.Core.Path.{sym, ap, ◌∙◌}
use lib.Dec.{eqb}
use Rattle.effect.specs.Six.{effect_of}
use Rattle.effect.specs.Whole.{one_if, then_of}
use Rattle.graph_nodes.proofs.Cases.{own_step_means}
use Rattle.sheet.specs.Read.{effect_at}
use Rattle.sheet.specs.Under.{effect_under}
use Rattle.rule_ask.specs.Gives.{stepped_in}
use Rattle.rule_ask.proofs.stepped_met.Goals as goal

pub stepped_met-requires : goal.stepped_met-requires
stepped_met-requires c =
    let p = c.in_place.ensures c.if-in_place.true in
    (p.0, rw c.node_number-own.ensures.0 p.1, p.2, rw c.node_at-w.ensures p.3)

pub returns-then-in_place : goal.returns-then-in_place
unfolding stepped_in
returns-then-in_place c =
    let a = c.args in
    let e = (λ i. effect_of (λ k. one_if (eqb k (c.node_number-own.ensures.0 i)) c.own_step-step.result)) ∙ sym (own_step_means a.g.now.file.now a.g.now.tables a.n c.own_step-step.ensures) in
    c.stepped_met.ensures ∙ (λ i. effect_under a.s.now a.x a.v (then_of (effect_at a.s.now a.x.types (c.node_at-w.ensures i)) (e i)))

pub returns : goal.returns
returns c =
    let a = c.args in
    c.effect_met.ensures ∙ ap (effect_under a.s.now a.x a.v) c.stepped.ensures
