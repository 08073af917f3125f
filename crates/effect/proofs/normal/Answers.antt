use borrow.Author.Rules.{rules}
use mathlib.Core.Path.{refl}
use Rattle.std.proofs.lemmas.Iterator.{YieldsList-from_range}
use Rattle.effect_one.specs.Formulas.{normal_one}
use Rattle.effect.specs.Six.{one_at}
use Rattle.effect.specs.Whole.{normal_of}
use Rattle.effect.proofs.Filled.{all_folded}
use Rattle.effect.proofs.Means.{tells_normal}
use Rattle.effect.proofs.normal.Goals as goal

pub returns : goal.returns
unfolding normal_of
returns c =
    let e = c.args.e in
    let all = tells_normal e (all_folded (λ k. normal_one (one_at e k)) (λ b k r d q. search rules) (YieldsList-from_range 0 6 6 refl refl) c.fold.ensures.ran) in
    record { equals = all.0; means = all.1 }
