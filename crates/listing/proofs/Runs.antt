-- Each line of the listing says what runs bring.
use Prim.Native.Nat.{ℕ, ◌<◌}
use mathlib.Core.Path.{◌≡◌, refl, ap}
use mathlib.Core.Bool.{Bool, true, false}
use mathlib.Core.List.{List}
use lib.ListN.{length}
use native.Mathlib.Omega.{arith}
use Rattle.answer.specs.declared.Answer.{Answer}
use Rattle.answer.specs.declared.Answer.TheVariants.{Pass}
use Rattle.effect.specs.Six.{held_at}
use Rattle.effect.specs.Coordinate.{at}
use Rattle.effect.proofs.Bools.{and_l, and_r, and_i, clash}
use Rattle.graph_tables.specs.declared.Tables.{Tables}
use Rattle.graph_tables.specs.Trailer.{tables_of}
use Rattle.graph_tables.specs.Fields.{node_method}
use Rattle.graph_refuse.proofs.Fit.{node_fit}
use Rattle.graph.specs.Judge.{judge_of}
use Rattle.graph.specs.Judgement.{shape_of}
use Rattle.graph.proofs.Passed.{judged}
use Rattle.graph.proofs.Whole.{within, own_shape}
use Rattle.sheet_layout.specs.declared.Shape.{Shape}
use Rattle.sheet_layout.specs.Layout.{method_at, node_at, sheet_bytes}
use Rattle.sheet.specs.Read.{stock_at, effect_at}
use Rattle.sheet.specs.Read.{marked}
use Rattle.rule_test.specs.Sheet.{IsReached}
use Rattle.sheet.proofs.Marked.{mark_true, true_mark}
use Rattle.reach.specs.Node.{is_reached, node_stock}
use Rattle.listing_first.specs.Listing.{node_lines, is_verdict}
use Rattle.listing_first.proofs.Lengths.{is_listed, is_unlisted, is_full}
use Rattle.listing_first.proofs.Longest.{left_count}
use Rattle.work.specs.Meaning.{Worked, WorksOut, refused, wrong_length, overdrawn, passes}
use Rattle.work.proofs.Agree.{wrote}
use Rattle.listing.specs.Lists.{text_of}
use Rattle.listing.specs.Runs.{Least, Lines, arrives, never, OverRuns}
use Rattle.listing.proofs.Longest.{verdict}

module _ (f r : List ℕ) (w : Worked f r) where
  abbrev t : Tables
  t = tables_of f

  abbrev x : Shape
  x = shape_of t

  module _ (n : ℕ) (l : n < t.nodes) where
    -- the test on the bytes is the sheet's word
    says : is_reached f t x r n ≡ true → IsReached f r n
    says e = (
      (l, mark_true r _ (and_l (marked r (node_at x n)) _ e)),
      ((node_fit f t n ((judged f t w.well_formed.0).nodes n l)).method, mark_true r _ (and_r (marked r (node_at x n)) _ e)),
    )

    said : IsReached f r n → is_reached f t x r n ≡ true
    said y = and_i (true_mark r _ y.0.1) (true_mark r _ y.1.1)

    least : IsReached f r n → (k : ℕ) → k < 6 → Least f n k (held_at (node_stock f t x r n) k)
    unfolding at
    least y k few = record {
      smallest = λ m.
          let e = w.smallest n y k m in
          let c = left_count (effect_at r x.types (node_at x n)) (stock_at r x.types (method_at x (node_method f t n))) k few in
          ((λ h b. omega (arith, e.0 h b, c)), (e.1.0, e.1.1, omega (arith, e.1.2, c)));
      missing = λ b m u. w.missing n y k b m u;
    }

    tells : Lines f n (node_lines f t x r n)
    tells = go (is_reached f t x r n) refl
      where
        go : (b : Bool) → is_reached f t x r n ≡ b → Lines f n (node_lines f t x r n)
        go true e =
            let y = says e in
            let b = (w.reached n).0 y in
            rw (is_listed f t x r n refl e refl)
            (arrives b.1 (held_at (node_stock f t x r n)) (λ k u. least y k (omega (arith, (within f w.well_formed.0).few_types))))
        go false e = rw (is_unlisted f t x r n refl e) (never (λ h b. clash _ (said ((w.reached n).1 (h, b))) e))

-- the verdicts are followed by lines
has_lines : {f s r : List ℕ} {a : Answer} → WorksOut f s r a → judge_of f ≡ Pass → length s ≡ sheet_bytes (shape_of (tables_of f)) → is_verdict a ≡ true
has_lines (refused n e v) p l = absurd (n p)
has_lines (wrong_length q n e v) p l = absurd (n l)
has_lines (overdrawn k w n o h v) p l = ap verdict v.number_is
has_lines (passes k w o v) p l = ap verdict v.number_is

-- Where neither the file nor the sheet is refused, the line of node n and type k is there exactly if some run arrives at n, and
-- its count and rights are the smallest that any run brings.
pub over_runs : (f s r : List ℕ) {a : Answer} → WorksOut f s r a → judge_of f ≡ Pass → length s ≡ sheet_bytes (shape_of (tables_of f)) → OverRuns f a (text_of f a r)
over_runs f s r {a} u p l =
    let w = (wrote f s r u p l).0 in
    let t = tables_of f in
    rw (own_shape f p) (record {
      lines = node_lines f t (shape_of t) r;
      tell = tells f r w;
      is = is_full a f t (shape_of t) r (has_lines u p l);
    })
