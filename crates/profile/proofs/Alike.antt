-- Two files with the same rows: the same nodes break a profile, and both get the same number, the same type and the same place. Such are files
-- that differ only in lines.
use Prim.Native.Nat.{ℕ, ◌<◌}
use mathlib.Core.Path.{◌≡◌, sym, subst, ap, ◌∙◌}
use mathlib.Core.List.{List}
use Rattle.answer.specs.declared.Answer.{Answer}
use Rattle.answer.specs.declared.Answer.TheVariants.{Pass}
use Rattle.answer.proofs.Settled.{says}
use Rattle.graph_tables.specs.declared.Tables.{Tables}
use Rattle.graph_tables.specs.Trailer.{tables_of}
use Rattle.graph_tables.specs.Fields.{node_kind, node_number, node_count, node_rights}
use Rattle.graph_places.specs.Places.{unfit_at}
use Rattle.graph.specs.Judge.{judge_of}
use Rattle.graph.specs.Lines.{SameButLines}
use Rattle.graph.specs.Graph.{CatchRow, OfKind}
use Rattle.graph.proofs.Whole.{formed}
use Rattle.graph_tables.proofs.SameRows.{SameRows, SameOpening, SameFields, same_tables, same_fields, rows_sym, opening_sym}
use Rattle.graph.proofs.Alike.{alike}
use Rattle.graph.proofs.Lines.{same_rows, same_opening}
use Rattle.graph.proofs.Agree.{Agree, agree, said, judged_alike, pass_alike}
use Rattle.profile_looks.specs.declared.Profile.{Profile}
use Rattle.profile_looks.specs.declared.Profile.TheVariants.{OneShot, Session}
use Rattle.profile.specs.Profile.{Asks, BreaksOneShot, by_flow, by_entry, by_catch, BreaksSession, by_grant, by_call, Profiled, refused, unfit, fits}
use Rattle.profile.specs.Breaks.{Breaks}
use Rattle.profile.proofs.Breaks.{only}

module _ (f g : List ℕ) (A : SameRows f g) where
  abbrev t : Tables
  t = tables_of f

  abbrev u : Tables
  u = tables_of g

  S : SameFields f g t
  S = same_fields f g A

  below : {n : ℕ} → n < t.nodes → n < u.nodes
  below l = rw (same_tables A) at l

  -- a field of a node, by g's own tables
  own : (field : List ℕ → Tables → ℕ → ℕ) (n : ℕ) → field f t n ≡ field g t n → field f t n ≡ field g u n
  own field n e = e ∙ ap (λ v. field g v n) (same_tables A)

  of_kind : {x n : ℕ} → OfKind f t x n → OfKind g u x n
  of_kind {n = n} h = (below h.0, sym (own node_kind n (S.kind n h.0)) ∙ h.1)

  asks : {a d : ℕ} → a < t.nodes → d < t.nodes → Asks f a d → Asks g a d
  asks {a} {d} k l w = record {
    is_grant = sym (own node_kind a (S.kind a k)) ∙ w.is_grant;
    same_type = sym (own node_number a (S.number a k)) ∙ w.same_type ∙ own node_number d (S.number d l);
    rights = λ b. rw (← own node_rights d (S.rights d l), ← own node_rights a (S.rights a k)) (w.rights b);
    once = sym (own node_count a (S.count a k)) ∙ w.once;
  }

  -- a catch row by g's own tables
  catch_row_same : {a e b : ℕ} → CatchRow f t a e b → CatchRow g u a e b
  catch_row_same {a} {e} {b} r =
      let k = r.0 in
      let l = r.1 in
      subst (λ v. CatchRow g v a e b) (same_tables A) (k, l, sym (S.catch_from_same k l) ∙ r.2, sym (S.catch_exception_same k l) ∙ r.3, sym (S.catch_to_same k l) ∙ r.4)

module _ (f g : List ℕ) (A : SameRows f g) (pass : judge_of f ≡ Pass) where
  one_shot : {d : ℕ} → BreaksOneShot f d → BreaksOneShot g d
  one_shot {d} (by_flow o a r n) =
      let l = (formed f pass).flow_inside a d r in
      by_flow (of_kind f g A o) a ((alike A).same_flow a d r) (λ w. n (asks g f (rows_sym A) (below f g A l.0) (below f g A l.1) w))
  one_shot (by_entry o m l e) = by_entry (of_kind f g A o) m (rw (same_tables A) at l) (sym ((alike A).same_entry m l) ∙ e)
  one_shot (by_catch o n e r) = by_catch (of_kind f g A o) n e (catch_row_same f g A r)

  session : {n : ℕ} → BreaksSession f n → BreaksSession g n
  session {n} (by_grant o h) = by_grant (of_kind f g A o) (λ w. h ((alike A).same_method n o.0 ∙ w.0, (alike A).same_repeats n o.0 ∙ w.1))
  session {n} (by_call r) = by_call ((alike A).same_calls n 0 r)

  breaks : (p : Profile) (n : ℕ) → Breaks f p n → Breaks g p n
  breaks OneShot n = one_shot
  breaks Session n = session

module _ (f g : List ℕ) (A : SameRows f g) (B : SameOpening f g) (p : Profile) where
  abbrev A' : SameRows g f
  A' = rows_sym A

  profiled : {a : Answer} → Profiled f (Breaks f p) a → (b : Answer) × Profiled g (Breaks g p) b × Agree a b
  profiled (refused n v) = (judge_of g, refused (λ q. n (pass_alike g f A' (opening_sym A B) q)) (says (judge_of g)), agree v (said (judged_alike f g A B)))
  profiled (unfit q n x y v) =
      let o = unfit_at g (tables_of g) n in
      let w = pass_alike f g A B q in
      (o, unfit w n (breaks f g A q p n x) (λ m l z. y m l (breaks g f A' w p m z)) (says o), agree v (says o))
  profiled (fits q h v) = let w = pass_alike f g A B q in (Pass, fits w (λ n z. h n (breaks g f A' w p n z)) (says Pass), agree v (says Pass))

  pub profiles_alike : {a b : Answer} → Profiled f (Breaks f p) a → Profiled g (Breaks g p) b → Agree a b
  profiles_alike {a} v w = let c = profiled v in subst (Agree a) (only g c.1 w) c.2

-- "Two graphs that differ only in lines get equal verdict numbers", and types and places.
pub profiles_but_lines : {f g : List ℕ} {a b : Answer} → SameButLines f g → (p : Profile) → Profiled f (Breaks f p) a → Profiled g (Breaks g p) b → Agree a b
profiles_but_lines {f} {g} L p = profiles_alike f g (same_rows L) (same_opening L) p
