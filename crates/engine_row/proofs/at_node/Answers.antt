use mathlib.Core.Path.{sym, ◌∙◌}
use Rattle.rule_ask.specs.Walk.{node_walk}
use Rattle.rule_ask.proofs.Quiet.{quiet}
use Rattle.engine_row.specs.Lowers.{sheet_of, lowers}
use Rattle.engine_row.proofs.at_node.Goals as goal
use Rattle.engine_row.proofs.at_node.Goals.{else-ends-via-then-ends+else-is_marked, else-ends-via-else-ends}

pub returns-then-is_marked : goal.returns-then-is_marked
unfolding node_walk
returns-then-is_marked c =
    c.at_end.ensures ∙ simp (c.node_effect-y.ensures, sym (rw c.node_at.ensures at c.if-is_marked.ensures))

pub returns : goal.returns
unfolding node_walk
returns c =
    let a = c.args in
    elim c.else-ends.branch [
      | else-ends-via-then-ends+else-is_marked w ↦ simp (sym (rw w.node_at.ensures at w.if-is_marked.ensures))
      | else-ends-via-else-ends w ↦ quiet a.g.now.file.now a.g.now.tables a.x sheet_of (lowers a.x) a.n (sym c.ends.ensures ∙ w.if-ends.false) (a.s.now, a.wrote)
    ]
