use borrow.Author.Rules.{rules}
use Rattle.effect_one.specs.Formulas.{then_one}
use Rattle.effect.specs.Six.{one_at}
use Rattle.effect.specs.Whole.{then_of}
use Rattle.effect.proofs.Laws.{then_normal}
use Rattle.effect.proofs.Coordinate.{apply_then}
use Rattle.effect.proofs.Means.{leaves}
use Rattle.effect.proofs.then.Goals as goal

pub returns : goal.returns
unfolding then_of
returns c =
    let a = c.args in
    let all = leaves _ (then_normal a.a a.b) (apply_then a.a a.b)
    (c.effect_of.ensures (λ k. then_one (one_at a.a k) (one_at a.b k)) (λ k x l q. search rules)) in
    record { equals = all.0; means = all.1 }
