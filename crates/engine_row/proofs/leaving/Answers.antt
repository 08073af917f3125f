use mathlib.Core.Path.{sym, ◌∙◌}
use native.Mathlib.Omega.{arith}
use Rattle.graph_tables.specs.declared.Table.TheVariants.{Catches}
use Rattle.graph_rows.proofs.Stretches.{to_within}
use Rattle.rule_ask.specs.Walk.{leaving_walk}
use Rattle.rule_ready.proofs.Inside.{few_types, sorted, method_of, exit_inside}
use Rattle.engine_row.proofs.leaving.Goals as goal

pub catches_of-handlers-requires : goal.catches_of-handlers-requires
catches_of-handlers-requires c = sorted c.requires.0

pub each_row-requires : goal.each_row-requires
each_row-requires c = (c.requires.0, rw c.catches_of-handlers.ensures (to_within _ _ Catches _))

pub take_effect-requires : goal.take_effect-requires
take_effect-requires c =
    let p = c.requires in
    (rw (c.exit_at-w.ensures, c.node_method.ensures.0) (exit_inside p.0 _ _ (method_of p.0 _ p.1) (omega (arith, p.2))), few_types p.0)

pub returns-then-no_rows : goal.returns-then-no_rows
unfolding leaving_walk
returns-then-no_rows c caught out =
    c.take_effect.ensures out ∙ simp (c.exit_at-w.ensures, c.node_method.ensures.0, sym (rw c.catches_of-handlers.ensures at c.if-no_rows.ensures))

pub returns : goal.returns
unfolding leaving_walk
returns c caught out =
    let rows = c.catches_of-handlers.ensures in
    c.each_row.ensures caught ∙ simp (rows, sym (rw rows at c.if-no_rows.ensures))
