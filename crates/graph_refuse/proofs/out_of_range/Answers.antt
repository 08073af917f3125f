use borrow.Author.Tests.{le-leb, lt-leb}
use Rattle.std.proofs.Math.Bool.{or-false}
use mathlib.Core.Logic.{inl, inr}
use Rattle.graph_refuse.specs.Bad.{out_of_range}
use Rattle.graph_refuse.proofs.out_of_range.Goals as goal

pub returns-then-t-method : goal.returns-then-t-method
unfolding out_of_range
returns-then-t-method c = simp (le-leb _ _ c.if-t-method.true)

pub returns-in-Grant : goal.returns-in-Grant
unfolding out_of_range
returns-in-Grant c = elim c.in-Grant.is [
  | inl e ↦ simp (e, lt-leb _ _ c.if-t-method.false, or-false)
  | inr e ↦ simp (e, lt-leb _ _ c.if-t-method.false, or-false)
]

pub returns-in-Throw : goal.returns-in-Throw
unfolding out_of_range
returns-in-Throw c = simp (c.in-Throw.is, lt-leb _ _ c.if-t-method.false, or-false)

pub returns-in-Call : goal.returns-in-Call
unfolding out_of_range
returns-in-Call c = simp (c.in-Call.is, lt-leb _ _ c.if-t-method.false)

pub returns-in-Plain : goal.returns-in-Plain
unfolding out_of_range
returns-in-Plain c = elim c.in-Plain.is [
  | inl e ↦ simp (e, lt-leb _ _ c.if-t-method.false, or-false)
  | inr e ↦ simp (e, lt-leb _ _ c.if-t-method.false, or-false)
]
