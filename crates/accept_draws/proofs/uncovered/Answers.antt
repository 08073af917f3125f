use mathlib.Core.Path.{◌≡◌, sym, ap, ◌∙◌}
use mathlib.Core.Bool.{true, false, not}
use lib.Dec.{eqb}
use Rattle.effect.specs.Whole.{covers_of}
use Rattle.graph_tables.specs.Kinds.{draw_kind}
use Rattle.graph_tables.specs.Fields.{node_kind}
use Rattle.reach.specs.Node.{is_reached, node_stock}
use Rattle.accept_draws.specs.Draws.{uncovered_at}
use Rattle.accept_draws.proofs.uncovered.Goals.{else-is_kind-via-then-is_kind+else-reached, else-is_kind-via-else-is_kind}
use Rattle.accept_draws.proofs.uncovered.Goals as goal

pub returns-then-reached : goal.returns-then-reached
unfolding uncovered_at
returns-then-reached c =
    let a = c.args in
    let k : eqb (node_kind a.g.now.file.now a.g.now.tables a.n) draw_kind ≡ true = sym c.is_kind.ensures ∙ c.if-is_kind.true in
    let r : is_reached a.g.now.file.now a.g.now.tables a.x a.s.now a.n ≡ true = sym c.reached.ensures ∙ c.if-reached.true in
    ap not (c.covers.ensures ∙ (λ i. covers_of (node_stock a.g.now.file.now a.g.now.tables a.x a.s.now a.n) (c.node_number-number.ensures.0 i) (c.node_rights-rights.ensures i))) ∙ simp (k, r)

pub returns : goal.returns
unfolding uncovered_at
returns c =
    let a = c.args in
    elim c.else-is_kind.branch [
      | else-is_kind-via-then-is_kind+else-reached w ↦
          let k : eqb (node_kind a.g.now.file.now a.g.now.tables a.n) draw_kind ≡ true = sym c.is_kind.ensures ∙ w.if-is_kind.true in
          let r : is_reached a.g.now.file.now a.g.now.tables a.x a.s.now a.n ≡ false = sym w.reached.ensures ∙ w.if-reached.false in
          simp (k, r)
      | else-is_kind-via-else-is_kind w ↦
          let k : eqb (node_kind a.g.now.file.now a.g.now.tables a.n) draw_kind ≡ false = sym c.is_kind.ensures ∙ w.if-is_kind.false in
          simp k
    ]
