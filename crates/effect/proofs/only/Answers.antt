use borrow.Author.Rules.{rules}
use lib.Dec.{eqb}
use Rattle.effect.specs.Apply.{one_if}
use Rattle.effect.proofs.only.Goals as goal

pub returns : goal.returns
returns c = c.effect_of.ensures (λ k. one_if (eqb k c.args.n) c.args.x) (λ k x l q. search rules)
