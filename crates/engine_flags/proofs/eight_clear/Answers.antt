use native.Mathlib.Omega.{arith}
use Rattle.engine_flags.proofs.Flags.{eight_back, eight_forth}
use Rattle.engine_flags.proofs.eight_clear.Goals as goal

pub returns-then-backwards : goal.returns-then-backwards
returns-then-backwards c =
    let a = c.args in
    eight_back a.area.now (λ i. omega (arith, c.type_inv.area i)) a.backwards a.n a.j c.at_step-i.result c.inner_four.result c.if-backwards.true c.at_step-i.ensures (omega (arith, c.if-n-j-lt8.false, c.requires.0)) c.inner_four.ensures

pub returns : goal.returns
returns c =
    let a = c.args in
    eight_forth a.area.now (λ i. omega (arith, c.type_inv.area i)) a.backwards a.n a.j c.at_step-i.result c.inner_four-2.result c.if-backwards.false c.at_step-i.ensures (omega (arith, c.if-n-j-lt8.false, c.requires.0)) c.inner_four-2.ensures
