use mathlib.Core.Path.{◌≡◌, refl, ap, ◌∙◌}
use native.Mathlib.Omega.{arith}
use Rattle.words.specs.Turn.{in_turn}
use Rattle.words.specs.Least.{least_of}
use Rattle.words.proofs.Least.{least_more}
use Rattle.profile_looks.specs.Looks.{convicted, lowest_of}
use Rattle.profile_looks.proofs.lowest.Goals as goal

pub loop-k-init : goal.loop-k-init
unfolding in_turn
loop-k-init c = refl

pub loop-k-preserved : goal.loop-k-preserved
loop-k-preserved c =
    let a = c.args in
    least_more a.g.now.tables.nodes (convicted a.g.now.file.now a.g.now.tables a.look) c.loop-k.k c.loop-k.invariant c.convicted.ensures c.min-least.ensures

pub returns : goal.returns
unfolding lowest_of
returns c =
    let a = c.args in
    let q : c.loop-k.k ≡ c.rows-k-end.result = omega (arith, c.loop-k.auto.k-end, c.loop-k-test.false) in
    c.loop-k.invariant ∙ ap (least_of a.g.now.tables.nodes (convicted a.g.now.file.now a.g.now.tables a.look)) (q ∙ c.rows-k-end.ensures)
