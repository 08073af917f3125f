-- An attained sheet that obeys the rules is what work out promises, and its draws give the verdict.
use Prim.Native.Nat.{ℕ, ◌<◌}
use mathlib.Core.Path.{◌≡◌, refl}
use mathlib.Core.Logic.{◌↔◌}
use mathlib.Core.Bool.{Bool, true, false, cond}
use mathlib.Core.List.{List}
use native.Mathlib.Omega.{arith}
use lib.Dec.{ltb}
use lib.ListN.{length, get_or}
use borrow.Author.Tests.{ltb-true, ltb-false}
use Rattle.words.specs.Lowest.{lowest}
use Rattle.words.proofs.Lowest.{is_lowest}
use Rattle.answer.specs.declared.Answer.TheVariants.{Pass}
use Rattle.answer.proofs.Settled.{says}
use Rattle.effect.specs.declared.Stock.{Stock}
use Rattle.effect.specs.Coordinate.{Coordinate, right, count, at}
use Rattle.model.proofs.Greatest.{Greatest}
use Rattle.model.specs.Stocks.{permits}
use Rattle.model.specs.Program.{steps}
use Rattle.model.proofs.Attained.{Attained}
use Rattle.model.proofs.Exact.{greatest, reached, smallest, missing}
use Rattle.graph_tables.specs.declared.Tables.{Tables}
use Rattle.graph_tables.specs.Trailer.{tables_of}
use Rattle.graph_places.specs.Places.{overdrawn_at}
use Rattle.graph.specs.Judge.{judge_of}
use Rattle.graph.specs.Judgement.{shape_of}
use Rattle.graph_nodes.specs.Program.{program_of, Brings, Overdrawing}
use Rattle.graph_nodes.proofs.Setting.{setting}
use Rattle.sheet_layout.specs.declared.Shape.{Shape}
use Rattle.sheet_layout.specs.Layout.{block_count, sheet_bytes}
use Rattle.sheet_formed.specs.Ill.{ill_block, first_ill}
use Rattle.sheet_formed.specs.Sheet.{sheet_in}
use Rattle.rule_test.specs.Sheet.{WellFormed, Holds, IsReached, stock_in}
use Rattle.accept_draws.specs.Draws.{uncovered_at}
use Rattle.accept.specs.Meaning.{IsCovered}
use Rattle.accept.proofs.Draws.{uncovered_says, covered_says}
use Rattle.work.specs.Meaning.{Worked, WorksOut, overdrawn, passes}

module _ (f : List ℕ) where
  abbrev t : Tables
  t = tables_of f

  abbrev x : Shape
  x = shape_of t

  module _ (r : List ℕ) where
    module _ (pass : judge_of f ≡ Pass) (long : length r ≡ sheet_bytes x) (bytes : (i : ℕ) → get_or r i 0 < 256) (whole : first_ill r x ≡ block_count x)
        (attained : Attained (setting f pass) (sheet_in x r)) (obeys : (q : ℕ) → Holds f r q) where
      formed : WellFormed f r
      formed = (pass, long, λ b l. (is_lowest (ill_block r x) (block_count x)).before b (omega arith))

      -- It is the greatest of all sheets that obey, not only of those that are bytes.
      pub greatest_of_all : Greatest permits (program_of f).graph (steps (program_of f)) (program_of f).opening (sheet_in x r)
      greatest_of_all = greatest (setting f pass) (sheet_in x r) obeys attained

      pub worked : Worked f r
      worked = record {
        well_formed = formed;
        bytes = bytes;
        obeys = obeys;
        greatest = λ u h. greatest_of_all.above_all (sheet_in x u) h;
        reached = reached (setting f pass) (sheet_in x r) obeys attained;
        smallest = λ n y k l. smallest (setting f pass) (sheet_in x r) obeys attained n y (count k l);
        missing = λ n y k b l m.
            let e = missing (setting f pass) (sheet_in x r) obeys attained n (right k b l m) 1 in (
              λ z. let h = e.0 (y, omega arith) in (h.0, h.1, omega (arith, h.2)),
              λ h. let z = e.1 (h.0, h.1, omega (arith, h.2)) in omega (arith, z.1),
            );
      }

    module _ (w : Worked f r) where
      open (setting f w.well_formed.0).told use {enough, short}

      -- a coordinate of the stock of a reached node is 0 exactly if some run brings 0 there
      none_at : (n : ℕ) → IsReached f r n → (i : Coordinate) → (at i (stock_in f r n) < 1) ↔ ((h : Stock) × Brings f n h × (at i h < 1))
      none_at n y (right k b l m) =
          let e = w.missing n y k b l m in (
            λ z. let h = e.0 (omega arith) in (h.0, h.1, omega (arith, h.2)),
            λ h. let z = e.1 (h.0, h.1, omega (arith, h.2)) in omega arith,
          )
      none_at n y (count k l) =
          let e = w.smallest n y k l in
          (λ z. let h = e.1 in (h.0, h.1, omega (arith, h.2)), λ h. omega (arith, e.0 h.0 h.1, h.2))

      -- A run overdraws at a node exactly if the sheet calls it reached and its stock there does not cover the draw.
      pub overdraws : (n : ℕ) → (IsReached f r n × (IsCovered f r n → ⊥)) ↔ Overdrawing f n
      overdraws n = (
        λ u.
            let i = short n (stock_in f r n) u.1 in
            let b = (none_at n u.0 i.0).0 i.2 in
            (b.0, b.1, λ c. omega (arith, enough n b.0 c i.0 i.1, b.2)),
        λ o.
            let y = (w.reached n).1 (o.0, o.1) in
            let i = short n o.0 o.2 in
            (y, λ c. omega (arith, enough n (stock_in f r n) c i.0 i.1, (none_at n y i.0).1 (o.0, o.1, i.2))),
      )

      -- so a reached node at which no run overdraws is covered
      pub covered : (n : ℕ) → (Overdrawing f n → ⊥) → IsReached f r n → IsCovered f r n
      covered n o y = go (uncovered_at f t x r n) refl
        where
          go : (b : Bool) → uncovered_at f t x r n ≡ b → IsCovered f r n
          go true e = absurd (o ((overdraws n).0 (uncovered_says f r w.well_formed.0 n y.0.0 e)))
          go false e = covered_says f r w.well_formed.0 n y.0.0 e y

  -- The verdict on the sheet that is written: the lowest reached draw that is not covered, if there is one.
  pub verdict : (s r : List ℕ) → length s ≡ sheet_bytes x → Worked f r
      → WorksOut f s r (cond (ltb (lowest (uncovered_at f t x r) t.nodes) t.nodes) (overdrawn_at f t (lowest (uncovered_at f t x r) t.nodes)) Pass)
  verdict s r long w = go (ltb n t.nodes) refl
    where
      n : ℕ
      n = lowest (uncovered_at f t x r) t.nodes

      below : (m : ℕ) → m < n → Overdrawing f m → ⊥
      below m k o =
          let u = (overdraws r w m).1 o in
          u.1 (covered_says f r w.well_formed.0 m u.0.0.0 ((is_lowest (uncovered_at f t x r) t.nodes).before m k) u.0)

      go : (b : Bool) → ltb n t.nodes ≡ b → WorksOut f s r (cond b (overdrawn_at f t n) Pass)
      go true e =
          let l = ltb-true n t.nodes e in
          overdrawn long w n ((overdraws r w n).0 (uncovered_says f r w.well_formed.0 n l ((is_lowest (uncovered_at f t x r) t.nodes).found l))) below (says (overdrawn_at f t n))
      go false e = passes long w (λ m o. below m (omega (arith, ltb-false n t.nodes e, ((overdraws r w m).1 o).0.0.0)) o) (says Pass)
