use mathlib.Core.Path.{◌≡◌}
use Rattle.graph_tables.specs.Family.{nearest}
use Rattle.graph_rows.specs.Rows.{own_of, has_own}
use Rattle.graph_rows.proofs.catches_of.Given as goal

abbrev pub invariant-loop-parent : goal.invariant-loop-parent
invariant-loop-parent l = (l.own ≡ own_of l.g.file.now l.g.tables l.n l.kind) × (nearest l.g.file.now l.g.tables (has_own l.g.file.now l.g.tables l.n) l.e ≡ nearest l.g.file.now l.g.tables (has_own l.g.file.now l.g.tables l.n) l.kind)

abbrev pub decreases-loop-parent : goal.decreases-loop-parent
decreases-loop-parent l = l.kind
