use mathlib.Core.Path.{◌∙◌}
use Rattle.rule_ask.specs.Walk.{start_walk}
use Rattle.rule_ready.proofs.Inside.{limit, few_types, method_inside}
use Rattle.engine_row.proofs.at_start.Goals as goal

pub take_stock-requires : goal.take_stock-requires
take_stock-requires c =
    let r = c.requires in
    (rw c.method_at.ensures (method_inside r 0 (limit r).some_method), few_types r)

pub returns : goal.returns
unfolding start_walk
returns c = c.take_stock.ensures 1 ∙ simp (c.opening.ensures, c.method_at.ensures)
