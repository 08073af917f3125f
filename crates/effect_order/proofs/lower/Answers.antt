use borrow.Author.Rules.{rules}
use Rattle.effect_one.specs.Formulas.{lower_held}
use Rattle.effect.specs.Six.{held_at}
use Rattle.effect.specs.Whole.{lower_of}
use Rattle.effect.proofs.Means.{lowers}
use Rattle.effect_order.proofs.lower.Goals as goal

pub returns : goal.returns
unfolding lower_of
returns c =
    let a = c.args in
    let all = lowers a.s a.t (c.stock_of.ensures (λ k. lower_held (held_at a.s k) (held_at a.t k)) (λ k h l q. search rules)) in
    record { equals = all.0; means = all.1 }
