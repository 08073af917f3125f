-- Two files with the same rows are worked out alike: the same number, type and place, and the same sheet, whatever else their bytes say. The
-- sheets are each the greatest for the same rules, and the verdict is check's.
use Prim.Native.Nat.{ℕ}
use mathlib.Core.Path.{◌≡◌, sym, subst, ◌∙◌}
use mathlib.Core.List.{List}
use lib.ListN.{length}
use Rattle.answer.specs.declared.Answer.{Answer}
use Rattle.answer.specs.declared.Answer.TheVariants.{Pass, BadSheet}
use Rattle.answer.proofs.Settled.{says}
use Rattle.model.specs.Rules.{Under}
use Rattle.model.specs.Stocks.{permits}
use Rattle.model.proofs.Alike.{under_alike}
use Rattle.graph.specs.Judge.{judge_of}
use Rattle.graph.specs.Graph.{graph_of}
use Rattle.graph_tables.proofs.SameRows.{SameRows, SameOpening, rows_sym, opening_sym}
use Rattle.graph.specs.Lines.{SameButLines}
use Rattle.graph.proofs.Lines.{same_rows, same_opening}
use Rattle.graph.proofs.Alike.{alike}
use Rattle.graph.proofs.Agree.{Agree, agree, said, judged_alike, pass_alike}
use Rattle.sheet_layout.specs.Layout.{sheet_bytes}
use Rattle.sheet_formed.specs.Sheet.{sheet_in}
use Rattle.rule_test.specs.Sheet.{shape}
use Rattle.accept.specs.Meaning.{Checks}
use Rattle.accept.proofs.Alike.{same_shape, well, holds, checks_alike}
use Rattle.work.specs.Meaning.{Worked, WorksOut, refused, wrong_length, overdrawn, passes}
use Rattle.work.proofs.Agree.{wrote}
use Rattle.work.proofs.Only.{under_each, if_refused, if_wrong}

module _ (f g : List ℕ) (A : SameRows f g) (B : SameOpening f g) where
  abbrev A' : SameRows g f
  A' = rows_sym A

  abbrev B' : SameOpening g f
  B' = opening_sym A B

  pub sheets_alike : (r q : List ℕ) → Worked f r → Worked g q → r ≡ q
  sheets_alike r q v w =
      under_each f r q v.well_formed (well g f A' q B' w.well_formed)
      (under_alike (alike A) (subst (λ x. Under permits (graph_of g) (sheet_in x r) (sheet_in x q)) (same_shape g f A') (w.greatest r (λ i. holds f g A r B (v.obeys i)))))
      (v.greatest q (λ i. holds g f A' q B' (w.obeys i)))
      v.bytes w.bytes

  module _ (s r q : List ℕ) where
    verdicts : {a b : Answer} → judge_of f ≡ Pass → length s ≡ sheet_bytes (shape f) → WorksOut f s r a → WorksOut g s q b → Agree a b × (r ≡ q)
    verdicts {a} p l v w =
        let c = wrote f s r v p l in
        let d = wrote g s q w (pass_alike f g A B p) (subst (λ x. length s ≡ sheet_bytes x) (same_shape f g A) l) in
        let e = sheets_alike r q c.0 d.0 in
        (checks_alike f g A B q (subst (λ z. Checks f z a) e c.1) d.1, e)

    pub works_alike : {a b : Answer} → WorksOut f s r a → WorksOut g s q b → Agree a b × (r ≡ q)
    works_alike {a} (refused n e v) w =
        let u = if_refused g s (λ p. n (pass_alike g f A' B' p)) w in
        (subst (Agree a) (sym u.0) (agree v (said (judged_alike f g A B))), e ∙ sym u.1)
    works_alike {a} (wrong_length p n e v) w =
        let u = if_wrong g s (pass_alike f g A B p) (λ l. n (subst (λ x. length s ≡ sheet_bytes x) (same_shape g f A') l)) w in
        (subst (Agree a) (sym u.0) (agree v (says BadSheet)), e ∙ sym u.1)
    works_alike (overdrawn l k n o h v) w = verdicts k.well_formed.0 l (overdrawn l k n o h v) w
    works_alike (passes l k o v) w = verdicts k.well_formed.0 l (passes l k o v) w

-- "Two graphs that differ only in lines get equal verdict numbers and equal sheets", and equal types and places, refused files too.
pub works_but_lines : {f g s r q : List ℕ} {a b : Answer} → SameButLines f g → WorksOut f s r a → WorksOut g s q b → Agree a b × (r ≡ q)
works_but_lines {f} {g} {s} {r} {q} L = works_alike f g (same_rows L) (same_opening L) s r q
