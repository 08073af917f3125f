-- Sweeps keep a sheet good and lower it; what they settle at is what work out promises.
use Prim.Native.Nat.{ℕ, ◌<◌}
use mathlib.Core.Path.{◌≡◌, refl, sym, ap, subst, ◌∙◌}
use mathlib.Core.Bool.{Bool, true, not}
use mathlib.Core.List.{List}
use lib.ListN.{length}
use Rattle.answer.specs.declared.Answer.TheVariants.{Pass, BadSheet}
use Rattle.answer.specs.Number.{number_of, SaysAs}
use Rattle.answer.proofs.Settled.{says}
use Rattle.answer.proofs.Unpack.{zero_pass}
use Rattle.graph_tables.specs.declared.Tables.{Tables}
use Rattle.graph_tables.specs.Trailer.{tables_of}
use Rattle.graph.specs.Judge.{judge_in, judge_of}
use Rattle.graph.specs.declared.Judgement.{Judgement}
use Rattle.graph.specs.declared.PassedGraph.{PassedGraph}
use Rattle.graph.specs.Judgement.{shape_of, judged_of}
use Rattle.graph.proofs.Whole.{own_shape}
use Rattle.sheet_layout.specs.declared.Shape.{Shape}
use Rattle.sheet_layout.specs.Layout.{sheet_bytes}
use Rattle.sheet.specs.Write.{blanked}
use Rattle.rule_ask.specs.Walk.{Ask, meets}
use Rattle.rule_ask.proofs.Asks.{Asks}
use Rattle.rule_test.proofs.Exact.{rules_kept}
use Rattle.accept_draws.specs.Draws.{verdict_of}
use Rattle.engine_lower.proofs.Good.{height, Good}
use Rattle.engine_lower.proofs.Block.{blank_good}
use Rattle.rule_ready.specs.Ready.{Ready}
use Rattle.engine_row.specs.Lowers.{sheet_of, wrote_of}
use Rattle.engine_sweep.specs.Sweep.{sweep_of}
use Rattle.engine_sweep.proofs.Sweeps.{sweep_done, settled}
use Rattle.work.specs.Swept.{Swept, unswept, again, Settled}
use Rattle.work.specs.Meaning.{Worked, WorksOut, wrong_length}
use Rattle.work.proofs.Meaning.{worked, verdict}

-- A good sheet that meets everything asked, whichever engine made it, is what work out promises.
pub good_worked : (f : List ℕ) (pass : judge_of f ≡ Pass) (r : List ℕ) → Good f pass r → ((a : Ask) → Asks f (tables_of f) (shape_of (tables_of f)) r r a → meets (shape_of (tables_of f)) r a ≡ true) → Worked f r
good_worked f pass r g met = worked f r pass g.long g.bytes g.whole g.attained (rules_kept f pass r g.whole met)

module _ (f : List ℕ) (pass : judge_of f ≡ Pass) (s : List ℕ) (long : length s ≡ sheet_bytes (shape_of (tables_of f))) where
  abbrev t : Tables
  t = tables_of f

  abbrev x : Shape
  x = shape_of t

  pub swept_good : {r : List ℕ} → Swept f t x (blanked s) r → Good f pass r
  swept_good unswept = blank_good f pass s long
  swept_good (again backwards h) = (sweep_done f pass backwards _ (swept_good h)).good

  pub sweep_falls : {r : List ℕ} (backwards : Bool) → Swept f t x (blanked s) r → wrote_of (sweep_of f t x backwards r) ≡ true → height x (sheet_of (sweep_of f t x backwards r)) < height x r
  sweep_falls backwards h e = (sweep_done f pass backwards _ (swept_good h)).falls (ap not e)

  pub settled_worked : {r : List ℕ} → Settled f t x (blanked s) r → Worked f r
  settled_worked {r} h = good_worked f pass r (swept_good h.swept) (settled f t x r h.backwards h.content).1

-- the same for tables and a shape that are the file's own
module _ {f : List ℕ} {t : Tables} {x : Shape} {s : List ℕ} (ready : Ready f t x s) where
  own : (P : Tables → Shape → Type 0) → P (tables_of f) (shape_of (tables_of f)) → P t x
  own P p = subst (P t) (sym ready.shaped) (subst (λ y. P y (shape_of y)) (sym ready.own) p)

  pass : judge_of f ≡ Pass
  pass = subst (λ y. judge_in f y ≡ Pass) ready.own ready.passed

  long : length s ≡ sheet_bytes (shape_of (tables_of f))
  long = subst (λ y. length s ≡ sheet_bytes (shape_of y)) ready.own (subst (λ y. length s ≡ sheet_bytes y) ready.shaped ready.long)

  pub falls : {r : List ℕ} (backwards : Bool) → Swept f t x (blanked s) r → wrote_of (sweep_of f t x backwards r) ≡ true → height x (sheet_of (sweep_of f t x backwards r)) < height x r
  falls {r} backwards = own (λ y z. Swept f y z (blanked s) r → wrote_of (sweep_of f y z backwards r) ≡ true → height z (sheet_of (sweep_of f y z backwards r)) < height z r) (sweep_falls f pass s long backwards)

  pub answers : {r : List ℕ} → Settled f t x (blanked s) r → WorksOut f s r (verdict_of f t x r)
  answers {r} = own (λ y z. Settled f y z (blanked s) r → WorksOut f s r (verdict_of f y z r)) (λ h. verdict f s r long (settled_worked f pass s long h))

-- tables and a shape that are the file's own, of one that passes
abbrev pub Fitting : List ℕ → Tables → Shape → Type 0
Fitting f t x = (judge_in f t ≡ Pass) × (t ≡ tables_of f) × (x ≡ shape_of t)

-- what the judgement of a file that passes says,
pub passed_fitting : (f : List ℕ) (j : Judgement) → j ≡ judged_of f → number_of j.answer ≡ 0 → Fitting f j.tables j.shape
passed_fitting f j e n =
    let p : judge_of f ≡ Pass = zero_pass _ (ap (λ y. number_of y.answer) (sym e) ∙ n) in
    let t = ap (λ y. y.tables) e in
    (ap (judge_in f) t ∙ p, t, ap (λ y. y.shape) e ∙ own_shape f p ∙ ap shape_of (sym t))

-- as a file that is known to pass says it,
pub passed_own : (f : List ℕ) (j : Judgement) → j ≡ judged_of f → j.answer ≡ Pass → (judge_of f ≡ Pass) × (j.tables ≡ tables_of f) × (j.shape ≡ shape_of j.tables)
passed_own f j e n =
    let fit = passed_fitting f j e (ap number_of n) in
    (subst (λ y. judge_in f y ≡ Pass) fit.1 fit.0, fit.1, fit.2)

-- and of one that does not
pub judged_refused : (f : List ℕ) (j : Judgement) → j ≡ judged_of f → (j.answer ≡ Pass → ⊥) → (judge_of f ≡ Pass → ⊥) × SaysAs j.answer (judge_of f)
judged_refused f j e n =
    let a = ap (λ y. y.answer) e in
    (λ p. n (a ∙ p), rw a (says (judge_of f)))

-- of a file that passes: a sheet that is as long as it asks for is ready, and one that is not is refused
module _ (p : PassedGraph) {s : List ℕ} where
  pub make_ready : length s ≡ sheet_bytes p.shape → Ready p.graph.file.now p.graph.tables p.shape s
  make_ready l = record { passed = ap (judge_in p.graph.file.now) p.tables_are ∙ p.passes; own = p.tables_are; shaped = p.shape_is; long = l }

  pub refused_length : (length s ≡ sheet_bytes p.shape → ⊥) → WorksOut p.graph.file.now s s BadSheet
  refused_length n = wrong_length p.passes (λ l. n (l ∙ ap sheet_bytes (sym (p.shape_is ∙ ap shape_of p.tables_are)))) refl (says BadSheet)
