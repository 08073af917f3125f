use Rattle.engine_queue.proofs.Moves.{row_true, row_false}
use Rattle.engine_queue.proofs.row.Goals as goal

pub returns-then-row : goal.returns-then-row
returns-then-row c =
    let p = c.requires in
    let woke = c.wake_row.ensures in
    row_true p.0 c.args.table c.args.k p.1 c.row.result c.if-row.true c.row.ensures woke.0 woke.1

pub returns : goal.returns
returns c =
    let p = c.requires in
    row_false p.0 c.args.table c.args.k p.1 c.row.result c.if-row.false c.row.ensures
