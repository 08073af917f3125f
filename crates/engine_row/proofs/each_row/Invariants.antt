use Prim.Native.Nat.{ℕ}
use Rattle.graph_rows.specs.Rows.{target_of}
use Rattle.sheet_layout.specs.Layout.{node_at}
use Rattle.rule_ask.specs.Walk.{of_effect}
use Rattle.engine_row.specs.Lowers.{lowers}
use Rattle.engine_row.proofs.Turn.{Turning}
use Rattle.engine_row.proofs.each_row.Given as goal

abbrev pub invariant-loop-j : goal.invariant-loop-j
invariant-loop-j l = (rule : ℕ) → Turning (λ k. lowers l.x (of_effect rule (node_at l.x (target_of l.g.file.now l.g.tables l.table k)) l.e)) l.initial.s l.initial.told l.initial.j l.j-end l.j l.s l.told
