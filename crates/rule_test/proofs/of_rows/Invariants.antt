use Prim.Native.Nat.{◌-◌, ◌≤◌}
use mathlib.Core.Path.{◌≡◌}
use Rattle.words.specs.Turn.{in_turn}
use Rattle.graph_rows.specs.Rows.{target_of}
use Rattle.sheet_layout.specs.Layout.{node_at}
use Rattle.rule_ask.specs.Walk.{of_effect}
use Rattle.rule_test.specs.Keys.{lessened}
use Rattle.rule_test.proofs.of_rows.Given as goal

abbrev pub invariant-loop-j : goal.invariant-loop-j
invariant-loop-j l = (l.initial.j ≤ l.j) × (l.j - l.initial.j ≤ l.j-end - l.initial.j) × (l.key ≡ in_turn (λ k. lessened l.x l.s (of_effect l.rule (node_at l.x (target_of l.g.file.now l.g.tables l.table k)) l.e)) l.initial.j (l.j - l.initial.j) l.least)
