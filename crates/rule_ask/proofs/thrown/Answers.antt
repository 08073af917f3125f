use mathlib.Core.Path.{ap, ◌∙◌}
use Rattle.effect.specs.Whole.{then_of}
use Rattle.sheet.specs.Read.{effect_at}
use Rattle.rule_ask.specs.Gives.{thrown_in}
use Rattle.rule_ask.proofs.thrown.Goals as goal

pub returns : goal.returns
unfolding thrown_in
returns c =
    let a = c.args in
    c.then.ensures.equals ∙ ap (then_of a.c.rounds.earlier) (c.effect.ensures ∙ ap (effect_at a.s.now a.x.types) c.exit_at.ensures)
