use mathlib.Core.Path.{◌≡◌, refl, sym, ap, subst, ◌∙◌}
use Rattle.std.proofs.Common.{Result, Ok, Err}
use Rattle.std.specs.Option.{unwrap_or}
use Rattle.std.specs.Result.{result_err}
use Rattle.answer.specs.declared.Answer.{Answer}
use Rattle.answer.specs.declared.Answer.TheVariants.{Pass}
use Rattle.graph_scan.specs.Scan.{refusal_or}
use Rattle.sheet_layout.specs.Layout.{Within}
use Rattle.graph.specs.Judge.{judge_in, judge_of}
use Rattle.graph.specs.Judgement.{shape_for}
use Rattle.graph.specs.Meaning.{Judges}
use Rattle.graph.proofs.Meaning.{judges}
use Rattle.graph.proofs.Whole.{shape_within}
use Rattle.graph.proofs.judged.Goals as goal

-- no refusal is a pass
passes : (r : Result (Unit {0}) Answer) → unwrap_or (result_err r) Pass ≡ refusal_or r Pass
passes (Ok x) = refl
passes (Err a) = refl

pub returns : goal.returns
returns c =
    let f = c.args.f.now in
    let t = c.read-tables.ensures in
    let a : c.unwrap_or-answer.result ≡ judge_of f = c.unwrap_or-answer.ensures ∙ ap (λ e. unwrap_or e Pass) c.err.ensures.value ∙ passes c.judge.result ∙ sym c.judge.ensures.first ∙ ap (judge_in f) t in
    let x = c.shape.ensures ∙ (λ i. shape_for (a i) (t i)) in
    record { equals = λ i. record { answer = a i; tables = t i; shape = x i }; means = subst (Judges f) (sym a) (judges f); within = subst Within (sym x) (shape_within f) }
