use mathlib.Core.Path.{◌≡◌, sym, ◌∙◌}
use mathlib.Core.Bool.{true}
use Rattle.graph_tables.specs.declared.Table.TheVariants.{Flow}
use Rattle.graph_tables.specs.Fields.{flow_from, flow_to}
use Rattle.sheet_layout.specs.Layout.{node_at}
use Rattle.sheet.specs.Under.{effect_under}
use Rattle.rule_ask.specs.Gives.{stepped_in}
use Rattle.rule_ask.specs.Walk.{of_effect, flow_walk}
use Rattle.rule_ready.proofs.Inside.{few_types, node_inside, leads_inside}
use Rattle.engine_row.proofs.Still.{lowers_met}
use Rattle.engine_row.proofs.along_flow.Goals as goal

pub take_effect-requires : goal.take_effect-requires
take_effect-requires c =
    let p = c.requires in
    (rw (c.node_at-w.ensures, c.flow_to.ensures) (node_inside p.0 _ (leads_inside p.0 Flow _ p.1)), few_types p.0)

pub returns-then-stepped_met : goal.returns-then-stepped_met
unfolding flow_walk
returns-then-stepped_met c =
    let a = c.args in
    let n = c.flow_from-n.ensures in
    let to = node_at a.x (flow_to a.g.now.file.now a.g.now.tables a.k) in
    let step = stepped_in a.g.now.file.now a.g.now.tables a.x a.s.now (flow_from a.g.now.file.now a.g.now.tables a.k) in
    let met : effect_under a.s.now a.x to step ≡ true = rw (← n, ← c.flow_to.ensures, ← c.node_at-w.ensures) (sym c.if-stepped_met.ensures) in
    lowers_met a.x a.s.now (of_effect 3 to step) a.wrote met ∙ simp (sym (rw n at c.if-goes.ensures))

pub returns-then-goes : goal.returns-then-goes
unfolding flow_walk
returns-then-goes c =
    let n = c.flow_from-n.ensures in
    c.take_effect.ensures 3 ∙ simp (c.node_at-w.ensures, c.flow_to.ensures, c.stepped-e.ensures, n, sym (rw n at c.if-goes.ensures))

pub returns : goal.returns
unfolding flow_walk
returns c = simp (sym (rw c.flow_from-n.ensures at c.if-goes.ensures))
