use mathlib.Core.Path.{ap, ◌∙◌}
use Rattle.effect.specs.Whole.{apply_of}
use Rattle.sheet_layout.specs.Layout.{method_at}
use Rattle.sheet.specs.Read.{effect_at, stock_at}
use Rattle.reach.proofs.stock.Goals as goal

pub returns : goal.returns
returns c =
    let a = c.args in
    let w = c.node_at-w.ensures in
    let v = c.method_at-v.ensures ∙ ap (method_at a.x) c.node_method.ensures.0 in
    c.apply.ensures
    ∙ (λ i. apply_of ((c.effect.ensures ∙ ap (effect_at a.s.now a.x.types) w) i) ((c.stock.ensures ∙ ap (stock_at a.s.now a.x.types) v) i))
