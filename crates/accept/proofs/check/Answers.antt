use mathlib.Core.Path.{◌≡◌, sym, ap, ◌∙◌}
use native.Mathlib.Omega.{arith}
use borrow.Author.Tests.{ne_eqb}
use Rattle.answer.specs.Number.{number_of}
use Rattle.graph.specs.Judge.{judge_of}
use Rattle.accept.specs.Check.{check_of}
use Rattle.accept.proofs.Meaning.{all_ensured}
use Rattle.accept.proofs.Many.{relies, as_checked}
use Rattle.accept.proofs.check.Goals as goal

pub of_judged-requires : goal.of_judged-requires
of_judged-requires c = relies c.in-Ok.p

pub returns-in-Ok : goal.returns-in-Ok
returns-in-Ok c =
    let a = c.args in
    let same = rw c.in-Ok.is at c.pass.ensures.passes in
    let all = all_ensured a.f.now a.s.now (c.of_judged.ensures ∙ as_checked c.in-Ok.p a.s.now ∙ ap (λ f. check_of f a.s.now) same) in
    record { equals = all.0; means = all.1.0; safe = all.1.1 }

pub returns-in-Err : goal.returns-in-Err
unfolding check_of
returns-in-Err c =
    let a = c.args in
    let refused = rw c.in-Err.is at c.pass.ensures.refusal in
    let n : number_of (judge_of a.f.now) ≡ 0 → ⊥ = λ z. omega (arith, refused.1, ap number_of (sym refused.0) ∙ z) in
    let all = all_ensured a.f.now a.s.now (sym refused.0 ∙ simp (ne_eqb _ _ n)) in
    record { equals = all.0; means = all.1.0; safe = all.1.1 }
