use borrow.Author.Rules.{rules}
use Rattle.effect_one.specs.Single.{apply_one}
use Rattle.effect.specs.Six.{held_at, one_at}
use Rattle.effect.specs.Whole.{apply_of}
use Rattle.effect.proofs.apply.Goals as goal

pub returns : goal.returns
unfolding apply_of
returns c = c.stock_of.ensures (λ k. apply_one (one_at c.args.e k) (held_at c.args.s k)) (λ k h l q. search rules)
