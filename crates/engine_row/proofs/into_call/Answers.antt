use mathlib.Core.Path.{sym, ◌∙◌}
use Rattle.rule_ask.specs.Walk.{into_walk}
use Rattle.rule_ready.proofs.Inside.{few_types, method_inside}
use Rattle.engine_row.proofs.into_call.Goals as goal

pub take_stock-requires : goal.take_stock-requires
take_stock-requires c =
    let p = c.requires in
    (rw c.method_at.ensures (method_inside p.0 _ p.1), few_types p.0)

pub returns-then-is_marked : goal.returns-then-is_marked
unfolding into_walk
returns-then-is_marked c =
    let m = sym (rw (c.method_at-w.ensures, c.node_method.ensures.0) at c.if-is_marked.ensures) in
    c.take_stock.ensures 8 ∙ simp (c.method_at.ensures, c.apply-h.ensures, c.stock.ensures, c.method_at-w.ensures, c.node_method.ensures.0, m)

pub returns : goal.returns
unfolding into_walk
returns c = simp (sym (rw (c.method_at-w.ensures, c.node_method.ensures.0) at c.if-is_marked.ensures))
