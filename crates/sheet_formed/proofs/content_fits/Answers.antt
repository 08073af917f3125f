use Rattle.sheet_formed.proofs.content_fits.Goals as goal

pub returns-then-stock : goal.returns-then-stock
returns-then-stock c = simp (c.if-stock.true, c.stock.ensures, c.counts_fit.ensures)

pub returns : goal.returns
returns c = simp (c.if-stock.false, c.effect.ensures, c.normal.ensures.equals)
