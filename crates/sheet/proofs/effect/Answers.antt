use Rattle.sheet.specs.Read.{effect_at}
use Rattle.sheet.proofs.effect.Goals as goal

pub returns : goal.returns
unfolding effect_at
returns c = λ i. record { keepin = c.six_of.ensures i; keepmax = c.six_of-2.ensures i; cap = c.six_of-3.ensures i; drop = c.six_of-4.ensures i }
