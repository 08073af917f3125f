use Prim.Native.Nat.{◌-◌, ◌≤◌}
use Rattle.engine_queue.specs.Queue.{Passing}
use Rattle.engine_queue.proofs.pass.Given as goal

abbrev pub invariant-loop-k : goal.invariant-loop-k
invariant-loop-k l = (l.from ≤ l.n) × Passing l.g.file.now l.g.tables l.x l.backwards l.from l.initial.s l.initial.area l.s l.area l.wrote

abbrev pub decreases-loop-k : goal.decreases-loop-k
decreases-loop-k l = l.n - l.from
