use mathlib.Core.Path.{◌≡◌, sym, ap, ◌∙◌}
use mathlib.Core.Bool.{true, false}
use Rattle.graph_tables.specs.Fields.{flow_from}
use Rattle.sheet_layout.specs.Layout.{node_at}
use Rattle.rule_ask.specs.Gives.{goes_in, stepped_in}
use Rattle.rule_ask.specs.Walk.{of_effect, flow_walk}
use Rattle.rule_test.specs.Keys.{lessened}
use Rattle.rule_test.proofs.along_flow.Goals as goal

pub returns-then-goes : goal.returns-then-goes
unfolding flow_walk
returns-then-goes c =
    let a = c.args in
    let n = c.flow_from-from.ensures in
    let g : goes_in a.g.now.file.now a.g.now.tables a.x a.s.now (flow_from a.g.now.file.now a.g.now.tables a.k) ≡ true = ap (goes_in a.g.now.file.now a.g.now.tables a.x a.s.now) (sym n) ∙ sym c.goes.ensures ∙ c.if-goes.true in
    c.flow_key.ensures
    ∙ (λ i. lessened a.x a.s.now
    (of_effect 3 ((c.node_at-w.ensures ∙ ap (node_at a.x) c.flow_to.ensures) i) (stepped_in a.g.now.file.now a.g.now.tables a.x a.s.now (n i))) a.least)
    ∙ simp g

pub returns : goal.returns
unfolding flow_walk
returns c =
    let a = c.args in
    let g : goes_in a.g.now.file.now a.g.now.tables a.x a.s.now (flow_from a.g.now.file.now a.g.now.tables a.k) ≡ false =
    ap (goes_in a.g.now.file.now a.g.now.tables a.x a.s.now) (sym c.flow_from-from.ensures) ∙ sym c.goes.ensures ∙ c.if-goes.false in
    simp g
