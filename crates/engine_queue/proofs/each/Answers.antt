use native.Mathlib.Omega.{arith}
use Rattle.engine_queue.proofs.Moves.{stretch_more}
use Rattle.engine_queue.proofs.each.Goals as goal

pub loop-j-preserved : goal.loop-j-preserved
loop-j-preserved c =
    let inv = c.loop-j.invariant in
    (omega (arith, inv.0), omega (arith, inv.0, c.loop-j-test.true), stretch_more c.args.table c.loop-j.wrote c.row-wrote.result inv.0 inv.2 c.row-wrote.ensures)

pub returns : goal.returns
returns c =
    let inv = c.loop-j.invariant in
    let left = c.loop-j-test.false in
    record {
      moved = inv.2.moved;
      met = λ e i p h. inv.2.met e i p (omega (arith, h, left));
      flow = λ e n l h.
          let all = inv.2.flow e n l (λ i p q. h i p (omega (arith, inv.0, inv.1, p, q))) in
          (all.0, λ i p q. all.1 i p (omega (arith, q, left)));
    }
