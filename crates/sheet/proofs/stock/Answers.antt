use Rattle.sheet.specs.Read.{stock_at}
use Rattle.sheet.proofs.stock.Goals as goal

pub returns : goal.returns
unfolding stock_at
returns c = λ i. record { rights = c.six_of.ensures i; counts = c.six_of-2.ensures i }
