use borrow.Author.Tests.{eqb-true}
use mathlib.Core.Path.{sym, ◌∙◌}
use Rattle.graph_refuse.specs.Bad.{throws_other}
use Rattle.graph_edges.proofs.throws_other.Goals as goal

pub returns-then-is_kind : goal.returns-then-is_kind
unfolding throws_other
returns-then-is_kind c = simp (eqb-true _ _ (sym c.is_kind.ensures ∙ c.if-is_kind.true))

pub returns-then-is_kind-2 : goal.returns-then-is_kind-2
unfolding throws_other
returns-then-is_kind-2 c = simp (sym c.is_kind.ensures ∙ c.if-is_kind.false, sym c.is_kind-2.ensures ∙ c.if-is_kind-2.true, ← c.node_number.ensures.0, c.kin.ensures)

pub returns : goal.returns
unfolding throws_other
returns c = simp (sym c.is_kind.ensures ∙ c.if-is_kind.false, sym c.is_kind-2.ensures ∙ c.if-is_kind-2.false)
