-- A good sheet that meets everything asked is what work out promises; and what is refused.
use Prim.Native.Nat.{ℕ}
use mathlib.Core.Path.{◌≡◌, refl, sym, ap, subst, ◌∙◌}
use mathlib.Core.List.{List}
use lib.ListN.{length, replicate}
use Rattle.answer.specs.declared.Answer.TheVariants.{BadSheet, BadArea}
use Rattle.answer.proofs.Settled.{says}
use Rattle.graph_tables.specs.declared.Tables.{Tables}
use Rattle.graph_tables.specs.Trailer.{tables_of}
use Rattle.graph.specs.declared.PassedGraph.{PassedGraph}
use Rattle.graph.specs.Judgement.{shape_of}
use Rattle.sheet_layout.specs.declared.Shape.{Shape}
use Rattle.sheet_layout.specs.Layout.{sheet_bytes}
use Rattle.sheet.specs.Write.{blanked}
use Rattle.accept_draws.specs.Draws.{verdict_of}
use Rattle.engine_queue.specs.Queue.{Settled}
use Rattle.work.specs.Meaning.{WorksOut}
use Rattle.work.proofs.Meaning.{verdict}
use Rattle.work.proofs.Sweeping.{good_worked}
use Rattle.work_queued.specs.Meaning.{WorksQueued, wrong_length, wrong_area, worked}

module _ (p : PassedGraph) (s : List ℕ) where
  abbrev f : List ℕ
  f = p.graph.file.now

  abbrev t : Tables
  t = p.graph.tables

  abbrev x : Shape
  x = p.shape

  own : (P : Tables → Shape → Type 0) → P t x → P (tables_of f) (shape_of (tables_of f))
  own P h = subst (λ y. P y (shape_of y)) p.tables_are (subst (P t) p.shape_is h)

  pub refused_sheet : (b : List ℕ) → (length s ≡ sheet_bytes x → ⊥) → WorksQueued f s s b b BadSheet
  refused_sheet b n = wrong_length p.passes (own (λ y z. length s ≡ sheet_bytes z → ⊥) n) refl refl (says BadSheet)

  pub refused_area : (b : List ℕ) → length s ≡ sheet_bytes x → (length b ≡ 4096 → ⊥) → WorksQueued f s s b b BadArea
  refused_area b l n = wrong_area p.passes (own (λ y z. length s ≡ sheet_bytes z) l) n refl refl (says BadArea)

  pub answered : {r b c : List ℕ} → length s ≡ sheet_bytes x → length b ≡ 4096 → Settled f t x r → c ≡ blanked b → WorksQueued f s r b c (verdict_of f t x r)
  answered {r} {b} {c} l k h e =
      let long = own (λ y z. length s ≡ sheet_bytes z) l in
      let g = own (λ y z. Settled f y z r) h in
      let w : WorksOut f s r (verdict_of f t x r) = back (λ y z. WorksOut f s r (verdict_of f y z r)) (verdict f s r long (good_worked f g.passed r g.good g.met)) in
      worked p.passes long k w (e ∙ ap (λ n. replicate n 0) k)
    where
      back : (P : Tables → Shape → Type 0) → P (tables_of f) (shape_of (tables_of f)) → P t x
      back P h = subst (P t) (sym p.shape_is) (subst (λ y. P y (shape_of y)) (sym p.tables_are) h)
