use Rattle.sheet.specs.Read.{column, stock_at}
use Rattle.sheet.proofs.Back.{six_there}
use Rattle.sheet.proofs.held.Goals as goal

pub returns : goal.returns
unfolding stock_at
returns c =
    let a = c.args in
    let l = c.requires in
    λ i. record { rights = six_there (column a.s.now a.t a.w 2 1 0) a.k l c.field.ensures i; count = six_there (column a.s.now a.t a.w 2 2 0) a.k l c.field-2.ensures i }
