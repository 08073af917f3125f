use mathlib.Core.Path.{◌≡◌, sym, ap, ◌∙◌}
use mathlib.Core.Bool.{true, false}
use lib.Dec.{eqb}
use Rattle.graph_tables.specs.Kinds.{return_kind, throw_kind}
use Rattle.graph_tables.specs.Fields.{node_kind}
use Rattle.sheet_layout.specs.Layout.{exit_at}
use Rattle.rule_ask.specs.Walk.{of_effect, leaving_walk, end_walk}
use Rattle.rule_test.specs.Keys.{lessened}
use Rattle.rule_test.proofs.at_end.Goals as goal

pub returns-then-is_kind : goal.returns-then-is_kind
unfolding end_walk
returns-then-is_kind c =
    let a = c.args in
    let k : eqb (node_kind a.g.now.file.now a.g.now.tables a.n) return_kind ≡ true = sym c.is_kind.ensures ∙ c.if-is_kind.true in
    let w = c.exit_at-w.ensures ∙ ap (λ m. exit_at a.x m 0) c.node_method.ensures.0 in
    c.effect_key.ensures ∙ ap (λ v. lessened a.x a.s.now (of_effect 5 v a.y) a.least) w ∙ simp k

pub returns-then-is_kind-2 : goal.returns-then-is_kind-2
unfolding end_walk
returns-then-is_kind-2 c =
    let a = c.args in
    let k : eqb (node_kind a.g.now.file.now a.g.now.tables a.n) return_kind ≡ false = sym c.is_kind.ensures ∙ c.if-is_kind.false in
    let m : eqb (node_kind a.g.now.file.now a.g.now.tables a.n) throw_kind ≡ true = sym c.is_kind-2.ensures ∙ c.if-is_kind-2.true in
    c.leaving.ensures
    ∙ ap (λ e. leaving_walk a.g.now.file.now a.g.now.tables a.x (λ v. a.s.now) (lessened a.x a.s.now) 4 6 a.n e a.y a.least) c.node_number-e.ensures.0
    ∙ simp (k, m)

pub returns : goal.returns
unfolding end_walk
returns c =
    let a = c.args in
    let k : eqb (node_kind a.g.now.file.now a.g.now.tables a.n) return_kind ≡ false = sym c.is_kind.ensures ∙ c.if-is_kind.false in
    let m : eqb (node_kind a.g.now.file.now a.g.now.tables a.n) throw_kind ≡ false = sym c.is_kind-2.ensures ∙ c.if-is_kind-2.false in
    simp (k, m)
