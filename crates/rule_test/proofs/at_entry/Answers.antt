use mathlib.Core.Path.{ap, ◌∙◌}
use Rattle.sheet_layout.specs.Layout.{node_at}
use Rattle.rule_ask.specs.Walk.{of_effect, entry_walk}
use Rattle.rule_test.specs.Keys.{lessened}
use Rattle.rule_test.proofs.at_entry.Goals as goal

pub returns : goal.returns
unfolding entry_walk
returns c =
    let a = c.args in
    c.effect_key.ensures
    ∙ (λ i. lessened a.x a.s.now (of_effect 2 ((c.node_at-w.ensures ∙ ap (node_at a.x) c.entry.ensures) i) (c.nothing_done.ensures.equals i)) a.least)
