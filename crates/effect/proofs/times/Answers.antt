use borrow.Author.Rules.{rules}
use mathlib.Core.Path.{ap}
use Rattle.effect_one.specs.Formulas.{times_one}
use Rattle.effect.specs.declared.Stock.{Stock}
use Rattle.effect.specs.Six.{one_at}
use Rattle.effect.specs.Whole.{times_of}
use Rattle.effect.specs.Coordinate.{at}
use Rattle.effect.proofs.Again.{times_normal, apply_times}
use Rattle.effect.proofs.Means.{leaves}
use Rattle.effect.proofs.times.Goals as goal

pub returns : goal.returns
unfolding times_of
returns c =
    let a = c.args in
    let all = leaves _ (times_normal a.e a.n) (λ i s. ap (λ (t : Stock). at i t) (apply_times a.e a.n s))
    (c.effect_of.ensures (λ k. times_one (one_at a.e k) a.n) (λ k x l q. search rules)) in
    record { equals = all.0; means = all.1 }
