use borrow.Author.Tests.{eqb-true, eqb-false}
use mathlib.Core.Path.{sym, ◌∙◌}
use Rattle.graph_nodes.proofs.Cases.{does_outside, does_grant, does_draw, does_plain, step_plain, step_grant, step_draw}
use Rattle.graph_nodes.proofs.step.Goals as goal

pub returns-then-g-n : goal.returns-then-g-n
returns-then-g-n c =
    let a = c.args in
    step_plain c.nothing_done.result (does_outside a.g.now.file.now a.g.now.tables a.n c.if-g-n.true) c.nothing_done.ensures.equals

pub returns-then-is_kind : goal.returns-then-is_kind
returns-then-is_kind c =
    let a = c.args in
    step_grant c.grant.result
    (does_grant a.g.now.file.now a.g.now.tables a.n c.if-g-n.false (eqb-true _ _ (sym c.is_kind.ensures ∙ c.if-is_kind.true)))
    c.grant.ensures.equals c.node_number-number.ensures.0 c.node_rights-rights.ensures c.node_count-count.ensures.0

pub returns-then-is_kind-2 : goal.returns-then-is_kind-2
returns-then-is_kind-2 c =
    let a = c.args in
    step_draw c.draw.result
    (does_draw a.g.now.file.now a.g.now.tables a.n c.if-g-n.false (eqb-true _ _ (sym c.is_kind-2.ensures ∙ c.if-is_kind-2.true)))
    c.draw.ensures.equals c.node_number.ensures.0

pub returns : goal.returns
returns c =
    let a = c.args in
    step_plain c.nothing_done-2.result
    (does_plain a.g.now.file.now a.g.now.tables a.n c.if-g-n.false
    (eqb-false _ _ (sym c.is_kind.ensures ∙ c.if-is_kind.false))
    (eqb-false _ _ (sym c.is_kind-2.ensures ∙ c.if-is_kind-2.false)))
    c.nothing_done-2.ensures.equals
