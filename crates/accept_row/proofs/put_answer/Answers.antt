use Prim.Native.Nat.{◌+◌, ◌*◌}
use lib.ListN.{set, length-set}
use borrow.Author.Rules.{rules}
use Rattle.accept_row.proofs.put_answer.Goals as goal

pub bounds-row-place : goal.bounds-row-place
bounds-row-place c = simp length-set (search rules)

pub returns : goal.returns
returns c =
    let a = c.args in
    λ i. set (set a.row.now (2 * a.i) (c.number.ensures i)) (2 * a.i + 1) (c.place.ensures.0 i)
