use Prim.Native.Nat.{ℕ, ◌<◌}
use Rattle.engine_flags.specs.Flags.{Woken, LeavesWait}
use Rattle.engine_flags.proofs.wake_thrown.Given as goal

abbrev pub invariant-loop-e : goal.invariant-loop-e
invariant-loop-e l = Woken l.initial.area l.area × ((i : ℕ) → i < l.e → LeavesWait l.g.file.now l.g.tables l.area l.n i)
