use Rattle.engine_queue.specs.Queue.{Entered}
use Rattle.engine_queue.proofs.enter.Given as goal

abbrev pub invariant-loop-m : goal.invariant-loop-m
invariant-loop-m l = Entered l.g.file.now l.g.tables l.x l.m l.s
