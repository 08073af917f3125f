use mathlib.Core.Path.{◌∙◌}
use Rattle.rule_ask.specs.Walk.{sheet_walk}
use Rattle.engine_sweep.specs.Sweep.{sweep_of}
use Rattle.engine_sweep.proofs.once.Goals as goal

pub returns : goal.returns
unfolding sweep_of sheet_walk
returns c = c.each_table.ensures ∙ simp c.at_start-start.ensures
