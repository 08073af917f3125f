-- Sweeps settle, since each that writes something lowers the sheet. So each file that passes has a sheet that work out promises; and since
-- there is only one, it is the greatest of all sheets that obey, not only of those that are bytes.
use Prim.Native.Nat.{ℕ, zero, suc, ◌<◌}
use mathlib.Core.Path.{◌≡◌, refl, subst}
use mathlib.Core.Bool.{Bool, true, false}
use mathlib.Core.Logic.{◌⊎◌, inl, inr, ⊎_elim}
use mathlib.Core.List.{List}
use native.Mathlib.Omega.{arith}
use lib.ListN.{length}
use Rattle.answer.specs.declared.Answer.TheVariants.{Pass}
use Rattle.model.specs.Stocks.{permits}
use Rattle.model.specs.Program.{steps}
use Rattle.model.proofs.Greatest.{Greatest}
use Rattle.graph_tables.specs.declared.Tables.{Tables}
use Rattle.graph_tables.specs.Trailer.{tables_of}
use Rattle.graph.specs.Judge.{judge_of}
use Rattle.graph.specs.Judgement.{shape_of}
use Rattle.graph_nodes.specs.Program.{program_of}
use Rattle.sheet_layout.specs.declared.Shape.{Shape}
use Rattle.sheet_layout.specs.Layout.{sheet_bytes}
use Rattle.sheet.specs.Write.{blanked}
use Rattle.rule_test.specs.Sheet.{sheet}
use Rattle.engine_lower.proofs.Good.{height}
use Rattle.engine_row.specs.Lowers.{sheet_of, wrote_of}
use Rattle.engine_sweep.specs.Sweep.{sweep_of}
use Rattle.work.specs.Swept.{Swept, unswept, again, Settled}
use Rattle.work.specs.Meaning.{Worked}
use Rattle.work.proofs.Meaning.{greatest_of_all}
use Rattle.work.proofs.Only.{one_sheet}
use Rattle.work.proofs.Sweeping.{swept_good, sweep_falls, settled_worked}

either : (b : Bool) → (b ≡ true) ⊎ (b ≡ false)
either true = inl refl
either false = inr refl

module _ (f : List ℕ) (pass : judge_of f ≡ Pass) (s : List ℕ) (long : length s ≡ sheet_bytes (shape_of (tables_of f))) where
  abbrev t : Tables
  t = tables_of f

  abbrev x : Shape
  x = shape_of t

  settle_from : (n : ℕ) (r : List ℕ) → Swept f t x (blanked s) r → height x r < n → (q : List ℕ) × Settled f t x (blanked s) q
  settle_from zero r h l = absurd (omega arith)
  settle_from (suc n) r h l =
      ⊎_elim (λ e. settle_from n (sheet_of (sweep_of f t x false r)) (again false h) (omega (arith, sweep_falls f pass s long false h e)))
      (λ e. (r, record { swept = h; backwards = false; content = e })) (either (wrote_of (sweep_of f t x false r)))

  settles : (q : List ℕ) × Settled f t x (blanked s) q
  settles = settle_from (suc (height x (blanked s))) (blanked s) unswept (omega arith)

  pub some_worked : (q : List ℕ) × Worked f q
  some_worked = let q = settles in (q.0, settled_worked f pass s long q.1)

pub greatest_worked : (f r : List ℕ) → Worked f r → Greatest permits (program_of f).graph (steps (program_of f)) (program_of f).opening (sheet f r)
greatest_worked f r w =
    let pass = w.well_formed.0 in
    let long = w.well_formed.1 in
    let q = settles f pass r long in
    let v = settled_worked f pass r long q.1 in
    let g = swept_good f pass r long q.1.swept in
    subst (λ z. Greatest permits (program_of f).graph (steps (program_of f)) (program_of f).opening (sheet f z)) (one_sheet f q.0 r v w)
    (greatest_of_all f q.0 pass g.long g.bytes g.whole g.attained v.obeys)
