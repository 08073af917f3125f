use Rattle.sheet.specs.Inner.{one_words}
use Rattle.sheet.proofs.inner_one.Goals as goal

pub returns : goal.returns
unfolding one_words
returns c = λ i. record { keepin = c.inner_word.ensures.0 i; keepmax = c.inner_word-2.ensures.0 i; cap = c.inner_word-3.ensures.0 i; drop = c.inner_word-4.ensures.0 i }
