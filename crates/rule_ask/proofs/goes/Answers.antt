use mathlib.Core.Path.{ap, ◌∙◌}
use mathlib.Core.Bool.{◌&&◌}
use Rattle.sheet.specs.Read.{marked}
use Rattle.rule_ask.specs.Gives.{goes_in}
use Rattle.rule_ask.proofs.goes.Goals as goal

pub returns : goal.returns
unfolding goes_in
returns c =
    let a = c.args in
    λ i. c.goes_on.ensures i && (c.is_marked.ensures ∙ ap (marked a.s.now) c.node_at.ensures) i
