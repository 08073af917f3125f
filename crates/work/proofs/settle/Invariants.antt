use mathlib.Core.Path.{◌≡◌}
use lib.ListN.{length}
use Rattle.engine_lower.proofs.Good.{height}
use Rattle.work.specs.Swept.{Swept}
use Rattle.work.proofs.settle.Given as goal

abbrev pub invariant-loop-x : goal.invariant-loop-x
invariant-loop-x l = (length l.s ≡ length l.initial.s) × Swept l.g.file.now l.g.tables l.x l.initial.s l.s

abbrev pub decreases-loop-x : goal.decreases-loop-x
decreases-loop-x l = height l.x l.s
