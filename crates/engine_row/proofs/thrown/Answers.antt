use mathlib.Core.Path.{sym, ◌∙◌}
use Rattle.rule_ask.specs.Walk.{thrown_walk}
use Rattle.engine_row.proofs.thrown.Goals as goal

pub returns-then-is_marked : goal.returns-then-is_marked
unfolding thrown_walk
returns-then-is_marked c =
    c.leaving.ensures 9 10 ∙ simp (c.thrown-y.ensures, sym (rw c.exit_at.ensures at c.if-is_marked.ensures))

pub returns : goal.returns
unfolding thrown_walk
returns c = simp (sym (rw c.exit_at.ensures at c.if-is_marked.ensures))
