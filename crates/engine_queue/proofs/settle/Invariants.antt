use Rattle.engine_lower.proofs.Good.{height}
use Rattle.engine_queue.specs.Queue.{Queue}
use Rattle.engine_queue.proofs.settle.Given as goal

abbrev pub invariant-loop-x : goal.invariant-loop-x
invariant-loop-x l = Queue l.g.file.now l.g.tables l.x l.s l.area

abbrev pub decreases-loop-x : goal.decreases-loop-x
decreases-loop-x l = height l.x l.s
