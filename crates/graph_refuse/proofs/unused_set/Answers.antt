use Rattle.std.proofs.Math.Bool.{or-false}
use Rattle.std.proofs.Math.Bool.{or_assoc}
use mathlib.Core.Logic.{inl, inr}
use Rattle.graph_refuse.specs.Bad.{unused_set}
use Rattle.graph_refuse.proofs.unused_set.Goals as goal

pub returns-in-Plain : goal.returns-in-Plain
unfolding unused_set
returns-in-Plain c = elim c.in-Plain.is [ inl e ↦ simp (e, or_assoc) | inr e ↦ simp (e, or_assoc) ]

pub returns-in-Grant : goal.returns-in-Grant
unfolding unused_set
returns-in-Grant c = simp c.in-Grant.is

pub returns-in-Draw : goal.returns-in-Draw
unfolding unused_set
returns-in-Draw c = simp (c.in-Draw.is, or-false)

pub returns-in-Call : goal.returns-in-Call
unfolding unused_set
returns-in-Call c = simp (c.in-Call.is, or-false)

pub returns-in-Throw : goal.returns-in-Throw
unfolding unused_set
returns-in-Throw c = simp c.in-Throw.is
