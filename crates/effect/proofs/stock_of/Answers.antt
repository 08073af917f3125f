use mathlib.Core.Path.{refl}
use native.Mathlib.Omega.{arith}
use Rattle.effect.proofs.Filled.{helds_more, helds_all}
use Rattle.effect.proofs.stock_of.Goals as goal

pub loop-k-init : goal.loop-k-init
loop-k-init g c f says = (omega arith, refl, refl)

pub loop-k-preserved : goal.loop-k-preserved
loop-k-preserved g c f says = helds_more f c.loop-k-test.true (c.loop-k.invariant f says) (says _ _ c.loop-k-test.true c.held-h.ensures)

pub returns : goal.returns
returns g c f says = helds_all f (c.loop-k.invariant f says) c.loop-k-test.false
