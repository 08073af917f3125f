use borrow.Author.Rules.{rules}
use Rattle.sheet.specs.Read.{column}
use Rattle.sheet.proofs.Fill.{made_six}
use Rattle.sheet.proofs.six_of.Goals as goal

pub returns : goal.returns
returns c =
    let a = c.args in
    made_six (column a.s.now a.t a.w a.n a.j a.none) (λ k y d h. search rules) c.from_fn.ensures.items
