use mathlib.Core.Path.{◌≡◌, refl, sym, ap, ◌∙◌}
use native.Mathlib.Omega.{arith}
use Rattle.answer.specs.declared.Answer.TheVariants.{Pass}
use Rattle.answer.specs.Number.{number_of}
use Rattle.answer.proofs.Settled.{says}
use Rattle.graph.specs.Judge.{judge_of}
use Rattle.accept.specs.Many.{ChecksMany, refused}
use Rattle.accept.proofs.Many.{safe_row}
use Rattle.accept.proofs.check_many.Goals as goal

pub returns-in-Ok : goal.returns-in-Ok
returns-in-Ok c =
    let same = rw c.in-Ok.is at c.pass-passed.ensures.passes in
    let many = rw same at c.many_of_passed.ensures in
    record { means = many; safe = safe_row _ _ many }

pub returns-in-Err : goal.returns-in-Err
returns-in-Err c =
    let a = c.args in
    let f = a.f.now in
    let no = rw c.in-Err.is at c.pass-passed.ensures.refusal in
    let n : judge_of f ≡ Pass → ⊥ = λ p. omega (arith, no.1, ap number_of (sym no.0 ∙ p)) in
    let many : ChecksMany f a.sheets.now a.row.now a.row.now c.in-Err.refusal = refused n refl (rw no.0 (says c.in-Err.refusal)) in
    record { means = many; safe = safe_row _ _ many }
