use mathlib.Core.Path.{◌≡◌, sym, ap, ◌∙◌}
use native.Mathlib.Omega.{arith}
use Rattle.answer.specs.declared.Answer.TheVariants.{Pass}
use Rattle.answer.specs.Number.{number_of}
use Rattle.answer.proofs.Settled.{says}
use Rattle.graph.specs.Judge.{judge_of}
use Rattle.profile.specs.Profile.{refused}
use Rattle.profile.proofs.profiled.Goals as goal

pub returns-in-Ok : goal.returns-in-Ok
returns-in-Ok c =
    let same = rw c.in-Ok.is at c.pass.ensures.passes in
    rw same at c.of_passed.ensures

pub returns-in-Err : goal.returns-in-Err
returns-in-Err c =
    let no = rw c.in-Err.is at c.pass.ensures.refusal in
    let n : judge_of c.args.f.now ≡ Pass → ⊥ = λ p. omega (arith, no.1, ap number_of (sym no.0 ∙ p)) in
    refused n (rw no.0 (says c.in-Err.refusal))
