use borrow.Author.Tests.{eqb-true, eqb-false}
use mathlib.Core.Path.{sym, ◌∙◌}
use Rattle.graph_nodes.proofs.Cases.{does_outside, does_grant, does_draw, does_plain, own_plain, own_grant, own_draw}
use Rattle.graph_nodes.proofs.own_step.Goals as goal

pub returns-then-g-n : goal.returns-then-g-n
returns-then-g-n c =
    let a = c.args in
    own_plain c.nothing_done.result (does_outside a.g.now.file.now a.g.now.tables a.n c.if-g-n.true) c.nothing_done.ensures

pub returns-then-is_kind : goal.returns-then-is_kind
returns-then-is_kind c =
    let a = c.args in
    own_grant c.grant.result
    (does_grant a.g.now.file.now a.g.now.tables a.n c.if-g-n.false (eqb-true _ _ (sym c.is_kind.ensures ∙ c.if-is_kind.true)))
    c.grant.ensures c.node_rights-rights.ensures c.node_count.ensures.0

pub returns-then-draws : goal.returns-then-draws
returns-then-draws c =
    let a = c.args in
    own_draw c.draw.result
    (does_draw a.g.now.file.now a.g.now.tables a.n c.if-g-n.false (eqb-true _ _ (sym c.is_kind-draws.ensures ∙ c.if-draws.true)))
    c.draw.ensures

pub returns : goal.returns
returns c =
    let a = c.args in
    own_plain c.nothing_done-2.result
    (does_plain a.g.now.file.now a.g.now.tables a.n c.if-g-n.false
    (eqb-false _ _ (sym c.is_kind.ensures ∙ c.if-is_kind.false))
    (eqb-false _ _ (sym c.is_kind-draws.ensures ∙ c.if-draws.false)))
    c.nothing_done-2.ensures
