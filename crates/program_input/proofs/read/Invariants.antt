use Rattle.std.proofs.Common.{length, ◌-◌, ◌≤◌}
use Rattle.program_input.proofs.read.Given as goal

abbrev pub invariant-loop-n : goal.invariant-loop-n
invariant-loop-n g l = l.n ≤ length l.file

abbrev pub decreases-loop-n : goal.decreases-loop-n
decreases-loop-n g l = length l.initial.file - l.n
