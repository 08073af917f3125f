use native.Mathlib.Omega.{arith}
use mathlib.Core.Path.{sym}
use Rattle.words_digits.proofs.Written.{none, retext}
use Rattle.listing_first.proofs.Lengths.{is_listed, is_unlisted}
use Rattle.listing_text.proofs.put_node.Goals as goal

pub put_stock-requires : goal.put_stock-requires
put_stock-requires c =
    let a = c.args in
    (omega (arith, c.requires.0), rw (is_listed a.g.now.file.now a.g.now.tables a.x a.s.now a.n c.reached.ensures c.if-reached.true c.stock-held.ensures) at c.requires.1)

pub returns-then-reached : goal.returns-then-reached
returns-then-reached c =
    let a = c.args in
    retext
    c.put_stock.ensures
    (sym (is_listed a.g.now.file.now a.g.now.tables a.x a.s.now a.n c.reached.ensures c.if-reached.true c.stock-held.ensures))

pub returns-else-reached : goal.returns-else-reached
returns-else-reached c =
    let a = c.args in
    retext
    (none a.text.now (omega arith))
    (sym (is_unlisted a.g.now.file.now a.g.now.tables a.x a.s.now a.n c.reached.ensures c.if-reached.false))
