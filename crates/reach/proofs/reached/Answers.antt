use mathlib.Core.Path.{ap, ◌∙◌}
use mathlib.Core.Bool.{◌&&◌}
use Rattle.sheet_layout.specs.Layout.{method_at}
use Rattle.sheet.specs.Read.{marked}
use Rattle.reach.proofs.reached.Goals as goal

pub returns : goal.returns
returns c =
    let a = c.args in
    let w = c.node_at-w.ensures in
    let v = c.method_at-v.ensures ∙ ap (method_at a.x) c.node_method.ensures.0 in
    λ i. (c.is_marked.ensures ∙ ap (marked a.s.now) w) i && (c.is_marked-2.ensures ∙ ap (marked a.s.now) v) i
