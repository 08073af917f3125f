use borrow.Author.Rules.{rules}
use Rattle.effect_one.specs.Single.{idle}
use Rattle.effect.specs.Whole.{nothing_done}
use Rattle.effect.proofs.Laws.{nothing_normal}
use Rattle.effect.proofs.Coordinate.{apply_nothing}
use Rattle.effect.proofs.Means.{leaves}
use Rattle.effect.proofs.nothing_done.Goals as goal

pub returns : goal.returns
unfolding nothing_done
returns c =
    let all = leaves _ nothing_normal apply_nothing (c.effect_of.ensures (λ k. idle) (λ k x l q. search rules)) in
    record { equals = all.0; means = all.1 }
