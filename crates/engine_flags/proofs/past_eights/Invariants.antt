use Prim.Native.Nat.{◌-◌, ◌≤◌}
use Rattle.engine_flags.specs.Flags.{Clear}
use Rattle.engine_flags.proofs.past_eights.Given as goal

abbrev pub invariant-loop-j : goal.invariant-loop-j
invariant-loop-j l = (l.k ≤ l.j) × (l.j ≤ l.n) × Clear l.area l.backwards l.n l.k l.j

abbrev pub decreases-loop-j : goal.decreases-loop-j
decreases-loop-j l = l.n - l.j
