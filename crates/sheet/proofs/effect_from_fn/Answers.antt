use mathlib.Core.Path.{refl}
use native.Mathlib.Omega.{arith}
use Rattle.effect_one.specs.Single.{drop_only}
use Rattle.sheet.specs.Inner.{of_types}
use Rattle.effect.proofs.Filled.{ones_more, ones_all}
use borrow.Author.Rules.{rules}
use Rattle.sheet.proofs.effect_from_fn.Goals as goal

pub loop-k-init : goal.loop-k-init
loop-k-init g c = λ f e. (omega arith, refl, refl, refl, refl)

pub loop-k-preserved : goal.loop-k-preserved
loop-k-preserved g c = λ f e. ones_more f (drop_only 0) c.requires.few (search rules) (c.loop-k.invariant f e) (e _ _ (search rules) c.one-x.ensures)

pub returns : goal.returns
unfolding of_types
returns g c = λ f e. ones_all f (drop_only 0) (c.loop-k.invariant f e) (search rules)
