use mathlib.Core.Path.{◌∙◌}
use Rattle.graph_tables.specs.declared.Table.TheVariants.{Flow}
use Rattle.graph_rows.proofs.Stretches.{to_within}
use Rattle.rule_ask.specs.Walk.{after_walk}
use Rattle.rule_ready.proofs.Inside.{sorted}
use Rattle.engine_row.proofs.after_call.Goals as goal

pub flow_of-requires : goal.flow_of-requires
flow_of-requires c = sorted c.requires

pub each_row-requires : goal.each_row-requires
each_row-requires c = (c.requires, rw c.flow_of.ensures (to_within _ _ Flow _))

pub returns-then-c : goal.returns-then-c
unfolding after_walk
returns-then-c c = c.each_row.ensures 7 ∙ simp (c.flow_of.ensures, c.if-c.true)

pub returns : goal.returns
unfolding after_walk
returns c = simp c.if-c.false
