use mathlib.Core.Path.{refl}
use native.Mathlib.Omega.{arith}
use Rattle.effect.proofs.Filled.{ones_more, ones_all, unfilled}
use Rattle.effect.proofs.effect_of.Goals as goal

pub loop-k-init : goal.loop-k-init
loop-k-init g c f says = (omega arith, refl, refl, refl, refl)

pub loop-k-preserved : goal.loop-k-preserved
loop-k-preserved g c f says =
    ones_more f unfilled (omega arith) c.loop-k-test.true (c.loop-k.invariant f says) (says _ _ c.loop-k-test.true c.one-x.ensures)

pub returns : goal.returns
returns g c f says = ones_all f unfilled (c.loop-k.invariant f says) c.loop-k-test.false
