use borrow.Author.Tests.{ne_eqb}
use Rattle.answer.specs.Number.{number_of}
use Rattle.answer.proofs.Unpack.{zero_pass}
use Rattle.graph.specs.Judgement.{shape_for}
use Rattle.graph.proofs.shape.Goals as goal

pub returns-in-Pass : goal.returns-in-Pass
unfolding shape_for
returns-in-Pass c = simp c.in-Pass.is

pub returns-in_default : goal.returns-in_default
unfolding shape_for
returns-in_default c = simp (ne_eqb (number_of c.args.a) 0 (λ e. c.in_default.not-Pass (zero_pass c.args.a e)))
