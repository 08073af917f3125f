use Prim.Native.Nat.{ℕ, ◌≤◌, ◌<◌}
use Rattle.graph_rows.specs.Rows.{target_of}
use Rattle.engine_flags.specs.Flags.{Waits, Woken}
use Rattle.engine_flags.proofs.wake_each.Given as goal

abbrev pub invariant-loop-j : goal.invariant-loop-j
invariant-loop-j l = Woken l.initial.area l.area × ((i : ℕ) → l.initial.j ≤ i → i < l.j → Waits l.area (target_of l.g.file.now l.g.tables l.table i))
