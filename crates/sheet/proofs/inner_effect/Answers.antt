use borrow.Author.Rules.{rules}
use Rattle.sheet.specs.Read.{effect_at}
use Rattle.sheet.specs.Inner.{one_words, of_types}
use Rattle.sheet.proofs.inner_effect.Goals as goal

pub returns : goal.returns
unfolding effect_at one_words of_types
returns c = let a = c.args in c.effect_from_fn.ensures (one_words a.s.now a.w) (λ k x l q. search rules)
