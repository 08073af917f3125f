use mathlib.Core.Path.{◌∙◌}
use Rattle.rule_ask.specs.Walk.{of_stock, start_walk}
use Rattle.rule_test.specs.Keys.{lessened}
use Rattle.rule_test.proofs.at_start.Goals as goal

pub returns : goal.returns
unfolding start_walk
returns c =
    let a = c.args in
    c.stock_key.ensures ∙ (λ i. lessened a.x a.s.now (of_stock 1 (c.method_at.ensures i) (c.opening.ensures i)) a.least)
