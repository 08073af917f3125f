use borrow.Author.Tests.{eqb-true, eqb-false}
use mathlib.Core.Path.{◌≡◌, sym, ◌∙◌}
use native.Mathlib.Omega.{arith}
use borrow.Author.Tests.{eq-eqb, ne_eqb}
use Rattle.graph_tables.specs.Kinds.{return_kind, throw_kind}
use Rattle.graph_tables.specs.Fields.{node_kind}
use Rattle.rule_ask.specs.Walk.{end_walk}
use Rattle.rule_ready.proofs.Inside.{few_types, exit_inside, method_of, exception_of}
use Rattle.engine_row.proofs.at_end.Goals as goal

pub take_effect-requires : goal.take_effect-requires
take_effect-requires c =
    let p = c.requires in
    (rw (c.exit_at-w.ensures, c.node_method.ensures.0) (exit_inside p.0 _ 0 (method_of p.0 _ p.1) (omega arith)), few_types p.0)

pub returns-then-is_kind : goal.returns-then-is_kind
unfolding end_walk
returns-then-is_kind c =
    let k = eqb-true _ _ (sym c.is_kind.ensures ∙ c.if-is_kind.true) in
    c.take_effect.ensures 5 ∙ simp (c.exit_at-w.ensures, c.node_method.ensures.0, eq-eqb _ _ k)

pub leaving-requires : goal.leaving-requires
leaving-requires c =
    let p = c.requires in
    (p.0, p.1, rw c.node_number.ensures.0 (exception_of p.0 _ p.1 (eqb-true _ _ (sym c.is_kind-2.ensures ∙ c.if-is_kind-2.true))))

pub returns-then-is_kind-2 : goal.returns-then-is_kind-2
unfolding end_walk
returns-then-is_kind-2 c =
    let a = c.args in
    let r : node_kind a.g.now.file.now a.g.now.tables a.n ≡ return_kind → ⊥ = eqb-false _ _ (sym c.is_kind.ensures ∙ c.if-is_kind.false) in
    let k = eqb-true _ _ (sym c.is_kind-2.ensures ∙ c.if-is_kind-2.true) in
    c.leaving.ensures 4 6 ∙ simp (c.node_number.ensures.0, ne_eqb _ _ r, eq-eqb _ _ k)

pub returns : goal.returns
unfolding end_walk
returns c =
    let a = c.args in
    let r : node_kind a.g.now.file.now a.g.now.tables a.n ≡ return_kind → ⊥ = eqb-false _ _ (sym c.is_kind.ensures ∙ c.if-is_kind.false) in
    let k : node_kind a.g.now.file.now a.g.now.tables a.n ≡ throw_kind → ⊥ = eqb-false _ _ (sym c.is_kind-2.ensures ∙ c.if-is_kind-2.false) in
    simp (ne_eqb _ _ r, ne_eqb _ _ k)
