-- Two files with the same rows have graphs that say the same in range.
use Prim.Native.Nat.{ℕ, ◌≤◌, ◌<◌}
use mathlib.Core.Path.{refl, sym, subst, ◌∙◌}
use mathlib.Core.List.{List}
use native.Mathlib.Omega.{arith}
use Rattle.model.proofs.Alike.{Alike}
use Rattle.graph_tables.specs.declared.Tables.{Tables}
use Rattle.graph_tables.specs.Trailer.{tables_of}
use Rattle.graph_tables.specs.Kinds.{draw_kind}
use Rattle.graph_tables.specs.Family.{own, above}
use Rattle.graph_rows.specs.Family.{HasRow, Applies}
use Rattle.graph.specs.Graph.{FamilyRow, OfKind, graph_in, graph_of}
use Rattle.graph_tables.proofs.SameRows.{SameRows, SameFields, same_tables, same_fields, fields_sym}

-- the same catch rows apply
module _ (f g : List ℕ) (t : Tables) (S : SameFields f g t) where
  has_row : {n e : ℕ} → HasRow f t n e → HasRow g t n e
  has_row r = let k = r.0 in let l = r.1 in (k, l, sym (S.catch_from_same k l) ∙ r.2, sym (S.catch_exception_same k l) ∙ r.3)

module _ (f g : List ℕ) (t : Tables) (S : SameFields f g t) where
  -- a parent is a lower number, so of one of the eight kinds the whole family is among the eight
  applies : {n e c : ℕ} → e < 8 → Applies f t n e c → Applies g t n e c
  applies u (own h) = own (has_row f g t S h)
  applies {n} {e} {c} u (above h l r) =
      let p = S.parent e u in
      above (λ w. h (has_row g f t (fields_sym S) w)) (subst (λ x. x < e) p l) (subst (λ x. Applies g t n x c) p (applies (omega arith) r))

  family_row : {a e b : ℕ} → FamilyRow f t a e b → FamilyRow g t a e b
  family_row {a} {e} r =
      let k = r.0 in
      let l = r.1 in
      (k, l, sym (S.catch_from_same k l) ∙ r.2, subst (Applies g t a e) (S.catch_exception_same k l) (applies r.5 r.3), sym (S.catch_to_same k l) ∙ r.4, r.5)

module _ (f g : List ℕ) (t : Tables) (S : SameFields f g t) where
  of_kind : (x n : ℕ) → OfKind f t x n → OfKind g t x n
  of_kind x n h = (h.0, sym (S.kind n h.0) ∙ h.1)

  in_range : Alike (graph_in f t) (graph_in g t)
  in_range = record {
    same_methods = refl;
    same_nodes = refl;
    same_entry = S.entry;
    same_method = S.method;
    same_repeats = S.count;
    same_goes = λ n h. (h.0, subst (λ x. x ≤ draw_kind) (S.kind n h.0) h.1);
    same_call = λ n h. (h.0, of_kind _ n h);
    same_return = λ n h. (h.0, of_kind _ n h);
    same_throw = λ n e h. (h.0.0, (of_kind _ n h.0, sym (S.number n h.0.0) ∙ h.1));
    same_flow = λ a b r. let k = r.0 in let l = r.1 in (k, l, sym (S.flow_from_same k l) ∙ r.2, sym (S.flow_to_same k l) ∙ r.3);
    same_calls = λ c m r. let k = r.0 in let l = r.1 in (k, l, sym (S.call_node_same k l) ∙ r.2, sym (S.call_method_same k l) ∙ r.3);
    same_catch = λ a e b. (family_row f g t S, family_row g f t (fields_sym S));
  }

pub alike : {f g : List ℕ} → SameRows f g → Alike (graph_of f) (graph_of g)
alike {f} {g} A = subst (λ t. Alike (graph_of f) (graph_in g t)) (same_tables A) (in_range f g (tables_of f) (same_fields f g A))
