use Prim.Native.Nat.{◌-◌, ◌≤◌}
use Rattle.engine_queue.specs.Queue.{StretchMoved}
use Rattle.engine_queue.proofs.each.Given as goal

abbrev pub invariant-loop-j : goal.invariant-loop-j
invariant-loop-j l = (l.initial.j ≤ l.j) × (l.j - l.initial.j ≤ l.j-end - l.initial.j) × StretchMoved l.g.file.now l.g.tables l.x l.table l.initial.j l.j l.initial.s l.initial.area l.s l.area l.wrote
