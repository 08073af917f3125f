use Prim.Native.Nat.{◌≤◌, ◌<◌, ◌-◌}
use mathlib.Core.Path.{◌≡◌}
use mathlib.Core.Bool.{true}
use Rattle.words.proofs.Lowest.{NoneBelow}
use Rattle.graph_rows.specs.Rows.{key_of}
use Rattle.graph_rows.proofs.Halve.{AtLeast}
use Rattle.graph_rows.proofs.first_row.Given as goal

abbrev pub invariant-loop-low : goal.invariant-loop-low
invariant-loop-low l = (l.low ≤ l.high) × (l.high ≤ l.initial.high) × NoneBelow (AtLeast (key_of l.g.file.now l.g.tables l.table) l.x) l.low × (l.high < l.initial.high → AtLeast (key_of l.g.file.now l.g.tables l.table) l.x l.high ≡ true)

abbrev pub decreases-loop-low : goal.decreases-loop-low
decreases-loop-low l = l.high - l.low
