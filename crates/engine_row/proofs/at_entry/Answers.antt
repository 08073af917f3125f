use mathlib.Core.Path.{◌∙◌}
use Rattle.graph_tables.specs.declared.Table.TheVariants.{Methods}
use Rattle.rule_ask.specs.Walk.{entry_walk}
use Rattle.rule_ready.proofs.Inside.{few_types, node_inside, leads_inside}
use Rattle.engine_row.proofs.at_entry.Goals as goal

pub take_effect-requires : goal.take_effect-requires
take_effect-requires c =
    let p = c.requires in
    (rw (c.node_at-w.ensures, c.entry.ensures) (node_inside p.0 _ (leads_inside p.0 Methods _ p.1)), few_types p.0)

pub returns : goal.returns
unfolding entry_walk
returns c = c.take_effect.ensures 2 ∙ simp (c.nothing_done.ensures.equals, c.node_at-w.ensures, c.entry.ensures)
