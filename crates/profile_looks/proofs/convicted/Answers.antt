use mathlib.Core.Path.{sym, ◌∙◌}
use Rattle.profile_looks.specs.Looks.{convicted}
use Rattle.profile_looks.proofs.convicted.Goals as goal

pub returns-then-convicts : goal.returns-then-convicts
unfolding convicted
returns-then-convicts c = simp (sym c.convicts.ensures ∙ c.if-convicts.true) c.node.ensures

pub returns : goal.returns
unfolding convicted
returns c = simp (sym c.convicts.ensures ∙ c.if-convicts.false)
