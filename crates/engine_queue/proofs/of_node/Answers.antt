use borrow.Author.Tests.{eqb-true, eqb-false}
use mathlib.Core.Path.{sym, ◌∙◌}
use native.Mathlib.Omega.{arith}
use Rattle.graph_tables.specs.declared.Table.TheVariants.{Calls}
use Rattle.graph_rows.proofs.Stretches.{to_within}
use Rattle.rule_ready.proofs.Inside.{sorted}
use Rattle.engine_queue.proofs.Moves.{node_calls, node_end}
use Rattle.engine_queue.proofs.of_node.Goals as goal

pub calls_of-requires : goal.calls_of-requires
calls_of-requires c = sorted c.requires.0.ready

pub each-requires : goal.each-requires
each-requires c = (c.requires.0, rw c.calls_of.ensures (to_within _ _ Calls _))

pub returns-then-is_kind : goal.returns-then-is_kind
returns-then-is_kind c = node_calls c.requires.0 c.args.n c.each.result (eqb-true _ _ (sym c.is_kind.ensures ∙ c.if-is_kind.true)) (rw c.calls_of.ensures at c.each.ensures)

pub returns : goal.returns
returns c = node_end c.requires.0 c.args.n c.row.result (omega (arith, eqb-false _ _ (sym c.is_kind.ensures ∙ c.if-is_kind.false), c.requires.2)) c.row.ensures
