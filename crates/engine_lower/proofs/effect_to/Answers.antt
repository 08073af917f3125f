use mathlib.Core.Path.{◌≡◌, sym, ◌∙◌}
use mathlib.Core.Bool.{true, false}
use Rattle.sheet.specs.Under.{effect_under}
use Rattle.engine_lower.specs.Lower.{effect_to}
use Rattle.engine_lower.proofs.effect_to.Goals as goal

pub returns-then-effect_met : goal.returns-then-effect_met
unfolding effect_to
returns-then-effect_met c =
    let a = c.args in
    let q : effect_under a.s.now a.x a.w a.e ≡ true = sym c.if-effect_met.ensures in
    (simp q, simp q)

pub returns : goal.returns
unfolding effect_to
returns c =
    let a = c.args in
    let q : effect_under a.s.now a.x a.w a.e ≡ false = sym c.if-effect_met.ensures in
    (simp q, c.lower_effect.ensures ∙ simp q)
