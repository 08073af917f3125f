use mathlib.Core.Path.{◌≡◌}
use lib.Dec.{eqb}
use Rattle.graph_tables.specs.Family.{nearest}
use Rattle.graph_edges.proofs.kin.Given as goal

abbrev pub invariant-loop-kind : goal.invariant-loop-kind
invariant-loop-kind l = nearest l.g.file.now l.g.tables (λ a. eqb a l.c) l.e ≡ nearest l.g.file.now l.g.tables (λ a. eqb a l.c) l.kind

abbrev pub decreases-loop-kind : goal.decreases-loop-kind
decreases-loop-kind l = l.kind
