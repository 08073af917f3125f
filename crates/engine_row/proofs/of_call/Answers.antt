use mathlib.Core.Path.{◌∙◌}
use borrow.Author.Rules.{rules}
use Rattle.rule_ask.specs.Gives.{called_in}
use Rattle.rule_ask.specs.Walk.{called_walk}
use Rattle.rule_ready.proofs.Inside.{still_ready, call_node_inside, call_method_inside}
use Rattle.engine_row.proofs.of_call.Goals as goal

pub into_call-into-requires : goal.into_call-into-requires
unfolding called_in
into_call-into-requires c =
    let p = c.requires in
    (still_ready p.0 (search rules), rw c.of_call-c.ensures (call_method_inside p.0 _ p.1))

pub all_thrown-requires : goal.all_thrown-requires
unfolding called_in
all_thrown-requires c =
    let p = c.requires in
    (still_ready p.0 (search rules), rw c.of_call-c.ensures (call_node_inside p.0 _ p.1))

pub returns-then-c : goal.returns-then-c
unfolding called_walk
returns-then-c c = rw (← c.of_call-c.ensures) (c.all_thrown.ensures ∙ simp (c.into_call-into.ensures, c.after_call-after.ensures, c.if-c.true))

pub returns : goal.returns
unfolding called_walk
returns c = rw (← c.of_call-c.ensures) (simp c.if-c.false)
