use mathlib.Core.Path.{ap, ◌∙◌}
use Rattle.sheet.specs.Read.{effect_at}
use Rattle.rule_ask.proofs.node_effect.Goals as goal

pub returns : goal.returns
returns c =
    let a = c.args in
    c.effect.ensures ∙ ap (effect_at a.s.now a.x.types) c.node_at.ensures
