use borrow.Author.Rules.{rules}
use Rattle.effect_one.specs.Formulas.{both_one}
use Rattle.effect.specs.Six.{one_at}
use Rattle.effect.specs.Whole.{both_of}
use Rattle.effect.proofs.Laws.{both_normal}
use Rattle.effect.proofs.Coordinate.{apply_both}
use Rattle.effect.proofs.Means.{leaves}
use Rattle.effect_order.proofs.both.Goals as goal

pub returns : goal.returns
unfolding both_of
returns c =
    let a = c.args in
    let all = leaves _ (both_normal a.a a.b) (apply_both a.a a.b)
    (c.effect_of.ensures (λ k. both_one (one_at a.a k) (one_at a.b k)) (λ k x l q. search rules)) in
    record { equals = all.0; means = all.1 }
