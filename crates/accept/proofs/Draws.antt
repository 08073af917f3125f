-- The test of a draw, on the bytes, says that the node is reached and not covered.
use Prim.Native.Nat.{ℕ, ◌<◌}
use mathlib.Core.Path.{◌≡◌, refl, sym, subst}
use mathlib.Core.Bool.{Bool, true, false, ◌&&◌}
use mathlib.Core.List.{List}
use native.Mathlib.Decide.{ℕ_discrete}
use lib.Dec.{eqb}
use borrow.Author.Tests.{eqb-true, eq-eqb, not-true}
use Rattle.answer.specs.declared.Answer.TheVariants.{Pass}
use Rattle.effect.specs.Whole.{covers_of}
use Rattle.effect.proofs.Bools.{and_l, and_r, and_i}
use Rattle.effect.proofs.Coordinate.{covers_sound, covers_complete}
use Rattle.effect.specs.declared.Stock.{Stock}
use Rattle.model.specs.Stocks.{Covered}
use Rattle.model.specs.Program.{doings}
use Rattle.graph_tables.specs.declared.Tables.{Tables}
use Rattle.graph_tables.specs.Trailer.{tables_of}
use Rattle.graph_tables.specs.Kinds.{grant_kind, draw_kind}
use Rattle.graph_tables.specs.Fields.{node_method, node_kind, node_number, node_rights}
use Rattle.graph_refuse.proofs.Fit.{node_fit}
use Rattle.graph.specs.Judge.{judge_of}
use Rattle.graph.specs.Judgement.{shape_of}
use Rattle.graph.proofs.Passed.{judged}
use Rattle.graph_nodes.specs.Program.{program_of}
use Rattle.graph_nodes.proofs.Cases.{does_grant, does_draw, does_plain}
use Rattle.sheet_layout.specs.Layout.{method_at, node_at}
use Rattle.sheet.specs.Read.{marked}
use Rattle.sheet.proofs.Marked.{mark_true, true_mark}
use Rattle.rule_test.specs.Sheet.{stock_in, IsReached}
use Rattle.effect.proofs.Bools.{clash}
use Rattle.accept_draws.specs.Draws.{uncovered_at}
use Rattle.accept.specs.Meaning.{IsCovered}

-- what is no draw is covered by every stock
no_draw : (f : List ℕ) (n : ℕ) → n < (tables_of f).nodes → (h : Stock) → (node_kind f (tables_of f) n ≡ draw_kind → ⊥) → (doings (program_of f)).Covers n h
no_draw f n l h k = elim (ℕ_discrete (node_kind f (tables_of f) n) grant_kind) [
  | yes g ↦ subst (λ d. Covered d h) (sym (does_grant f (tables_of f) n l g)) tt
  | no g ↦ subst (λ d. Covered d h) (sym (does_plain f (tables_of f) n l g k)) tt
]

module _ (f s : List ℕ) (pass : judge_of f ≡ Pass) (n : ℕ) (l : n < (tables_of f).nodes) where
  abbrev t : Tables
  t = tables_of f

  -- of a draw, covered is what the test of crate effect says
  covers : Bool
  covers = covers_of (stock_in f s n) (node_number f t n) (node_rights f t n)

  covered : node_kind f t n ≡ draw_kind → covers ≡ true → IsCovered f s n
  unfolding covers
  covered k h = subst (λ d. Covered d (stock_in f s n)) (sym (does_draw f t n l k)) (covers_sound _ _ _ h)

  is_covered : node_kind f t n ≡ draw_kind → IsCovered f s n → covers ≡ true
  unfolding covers
  is_covered k h = covers_complete _ _ _ (subst (λ d. Covered d (stock_in f s n)) (does_draw f t n l k) h)

  pub uncovered_says : uncovered_at f t (shape_of t) s n ≡ true → IsReached f s n × (IsCovered f s n → ⊥)
  unfolding uncovered_at covers
  uncovered_says h =
      let k = eqb-true (node_kind f t n) draw_kind (and_l (eqb (node_kind f t n) draw_kind) _ h) in
      let r = and_r (eqb (node_kind f t n) draw_kind) _ h in
      let m = and_l (marked s (node_at (shape_of t) n) && marked s (method_at (shape_of t) (node_method f t n))) _ r in
      let u = and_r (marked s (node_at (shape_of t) n) && marked s (method_at (shape_of t) (node_method f t n))) _ r in
      let fit = node_fit f t n ((judged f t pass).nodes n l) in (
        ((l, mark_true s _ (and_l (marked s (node_at (shape_of t) n)) _ m)), (fit.method, mark_true s _ (and_r (marked s (node_at (shape_of t) n)) _ m))),
        λ c. clash _ (is_covered k c) (not-true _ u),
      )

  pub covered_says : uncovered_at f t (shape_of t) s n ≡ false → IsReached f s n → IsCovered f s n
  unfolding uncovered_at covers
  covered_says h y = elim (ℕ_discrete (node_kind f t n) draw_kind) [
    | yes k ↦ covered k (go k covers refl)
    | no k ↦ no_draw f n l (stock_in f s n) k
  ]
    where
      go : node_kind f t n ≡ draw_kind → (b : Bool) → covers ≡ b → covers ≡ true
      go k true e = e
      go k false e = absurd (clash _ (and_i (eq-eqb _ _ k) (and_i (and_i (true_mark s _ y.0.1) (true_mark s _ y.1.1)) (rw e refl))) h)

-- A node that some stock does not cover is a draw, so the type that 13 names is one of the file's.
pub drawn_type : (f : List ℕ) → judge_of f ≡ Pass → (n : ℕ) → n < (tables_of f).nodes → (h : Stock) → ((doings (program_of f)).Covers n h → ⊥) → node_number f (tables_of f) n < (tables_of f).types
drawn_type f pass n l h u = elim (ℕ_discrete (node_kind f (tables_of f) n) draw_kind) [
  | yes k ↦ (node_fit f (tables_of f) n ((judged f (tables_of f) pass).nodes n l)).draw_type k
  | no k ↦ absurd (u (no_draw f n l h k))
]
