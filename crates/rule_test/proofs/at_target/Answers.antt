use mathlib.Core.Path.{ap, ◌∙◌}
use Rattle.sheet_layout.specs.Layout.{node_at}
use Rattle.rule_ask.specs.Walk.{of_effect}
use Rattle.rule_test.specs.Keys.{lessened}
use Rattle.rule_test.proofs.at_target.Goals as goal

pub returns : goal.returns
returns c =
    let a = c.args in
    c.effect_key.ensures ∙ ap (λ w. lessened a.x a.s.now (of_effect a.rule w a.e) a.least) (c.node_at-w.ensures ∙ ap (node_at a.x) c.target.ensures)
