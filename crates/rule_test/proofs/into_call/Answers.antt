use mathlib.Core.Path.{◌≡◌, sym, ap, ◌∙◌}
use mathlib.Core.Bool.{true, false}
use Rattle.effect.specs.Whole.{apply_of}
use Rattle.graph_tables.specs.Fields.{node_method}
use Rattle.sheet_layout.specs.Layout.{method_at}
use Rattle.sheet.specs.Read.{stock_at, marked}
use Rattle.rule_ask.specs.Walk.{of_stock, into_walk}
use Rattle.rule_test.specs.Keys.{lessened}
use Rattle.rule_test.proofs.into_call.Goals as goal

pub returns-then-is_marked : goal.returns-then-is_marked
unfolding into_walk
returns-then-is_marked c =
    let a = c.args in
    let w = c.method_at-w.ensures ∙ ap (method_at a.x) c.node_method.ensures.0 in
    let m : marked a.s.now (method_at a.x (node_method a.g.now.file.now a.g.now.tables a.c.node)) ≡ true = ap (marked a.s.now) (sym w) ∙ sym c.is_marked.ensures ∙ c.if-is_marked.true in
    c.stock_key.ensures
    ∙ (λ i. lessened a.x a.s.now
    (of_stock 8 (c.method_at.ensures i) ((c.apply-h.ensures ∙ ap (apply_of a.c.rounds.earlier) (c.stock.ensures ∙ ap (stock_at a.s.now a.x.types) w)) i)) a.least)
    ∙ simp m

pub returns : goal.returns
unfolding into_walk
returns c =
    let a = c.args in
    let w = c.method_at-w.ensures ∙ ap (method_at a.x) c.node_method.ensures.0 in
    let m : marked a.s.now (method_at a.x (node_method a.g.now.file.now a.g.now.tables a.c.node)) ≡ false = ap (marked a.s.now) (sym w) ∙ sym c.is_marked.ensures ∙ c.if-is_marked.false in
    simp m
