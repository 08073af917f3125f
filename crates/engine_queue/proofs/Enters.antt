-- Rules 1 and 2, done on a blank sheet: what they ask does not depend on the sheet, so once met it stays met.
--   entered_start, entered_more
use Prim.Native.Nat.{ℕ, ◌+◌, ◌<◌}
use mathlib.Core.Path.{◌≡◌, sym, ap, subst, ◌∙◌}
use mathlib.Core.Bool.{Bool, true}
use mathlib.Core.List.{List}
use native.Mathlib.Decide.{dec_lt}
use native.Mathlib.Omega.{arith}
use lib.ListN.{length}
use Rattle.answer.specs.declared.Answer.TheVariants.{Pass}
use Rattle.graph_tables.specs.declared.Tables.{Tables}
use Rattle.graph_tables.specs.declared.Table.TheVariants.{Methods}
use Rattle.graph_tables.specs.Trailer.{tables_of}
use Rattle.graph.specs.Judge.{judge_in, judge_of}
use Rattle.graph.specs.Judgement.{shape_of}
use Rattle.sheet_layout.specs.declared.Shape.{Shape}
use Rattle.sheet_layout.specs.Layout.{method_at, node_at, sheet_bytes}
use Rattle.sheet.specs.Write.{blanked}
use Rattle.sheet.proofs.Back.{blank_length}
use Rattle.effect.specs.Whole.{nothing_done}
use Rattle.graph_tables.specs.Fields.{entry_of}
use Rattle.graph_nodes.specs.Nodes.{opening_in}
use Rattle.rule_ask.specs.Walk.{Ask, of_effect, of_stock, meets, start_walk, entry_walk}
use Rattle.rule_ask.proofs.Asks.{at_entry, at_start, of_row}
use Rattle.engine_lower.proofs.Good.{Good}
use Rattle.engine_lower.proofs.Block.{blank_good}
use Rattle.rule_ready.specs.Ready.{Ready}
use Rattle.engine_row.specs.Lowers.{sheet_of, lowered_to, lowers}
use Rattle.engine_row.proofs.Brought.{Brought, asks_brought}
use Rattle.engine_row.proofs.Done.{brought_done}
use Rattle.engine_row.proofs.Kept.{placed, met_kept, met_own}
use Rattle.rule_ready.proofs.Inside.{still_ready}
use Rattle.engine_queue.specs.Queue.{Met, Entered}
use Rattle.engine_queue.proofs.Step.{own}

module _ (f : List ℕ) where
  abbrev t : Tables
  t = tables_of f

  abbrev x : Shape
  x = shape_of t

  -- what rules 1 and 2 ask
  abbrev opened : Ask
  opened = of_stock 1 (method_at x 0) (opening_in f t)

  abbrev asked : ℕ → Ask
  asked m = of_effect 2 (node_at x (entry_of f m)) nothing_done

  -- one thing that runs bring is done
  module _ (pass : judge_of f ≡ Pass) (s : List ℕ) (G : Good f pass s) (a : Ask) (h : Brought f pass a) where
    good_after : Good f pass (lowered_to x s a)
    good_after = (brought_done f pass h s G).good

    own_met : meets x (lowered_to x s a) a ≡ true
    own_met = let p = placed f pass h in met_own f pass s G p.0 p.1 p.2

    still_met : {d : Ask} → Brought f pass d → meets x s d ≡ true → meets x (lowered_to x s a) d ≡ true
    still_met k m = let p = placed f pass h in met_kept f pass s G p.0 p.1 p.2 (placed f pass k).2 m

  own_start : (s r : List ℕ) (v w : Bool) → Ready f t x s → (pass : judge_of f ≡ Pass) → Good f pass s → (r, w) ≡ start_walk f t x sheet_of (lowers x) (s, v) → Entered f t x 0 r
  unfolding start_walk lowers
  own_start s r v w ready pass G e =
      let z : r ≡ lowered_to x s opened = ap sheet_of e in
      let b = asks_brought f pass s s G G at_start in
      let g : Good f pass r = subst (Good f pass) (sym z) (good_after pass s G opened b) in
      record {
        ready = still_ready ready (g.long ∙ sym G.long);
        passed = pass;
        good = g;
        start = subst (λ q. meets x q opened ≡ true) (sym z) (own_met pass s G opened b);
        entries = λ k l. absurd (omega arith);
      }

  own_more : (m : ℕ) (s r : List ℕ) (v w : Bool) → m < t.methods → Entered f t x m s → (r, w) ≡ entry_walk f t x sheet_of (lowers x) m (s, v) → Entered f t x (m + 1) r
  unfolding entry_walk lowers
  own_more m s r v w l E e =
      let pass = E.passed in
      let G = E.good in
      let z : r ≡ lowered_to x s (asked m) = ap sheet_of e in
      let b : Brought f pass (asked m) = asks_brought f pass s s G G (of_row Methods m (asked m) l (at_entry m)) in
      let g : Good f pass r = subst (Good f pass) (sym z) (good_after pass s G (asked m) b) in
      record {
        ready = still_ready E.ready (g.long ∙ sym G.long);
        passed = pass;
        good = g;
        start = subst (λ q. meets x q opened ≡ true) (sym z) (still_met pass s G (asked m) b (asks_brought f pass s s G G at_start) E.start);
        entries = λ k h. met k h z b;
      }
    where
      met : (k : ℕ) → k < m + 1 → r ≡ lowered_to x s (asked m) → Brought f E.passed (asked m) → Met f t x r Methods k
      met k h z b d (at_entry i) = elim (dec_lt i m) [
        | yes u ↦ subst (λ q. meets x q (asked i) ≡ true) (sym z) (still_met E.passed s E.good (asked m) b (asks_brought f E.passed s s E.good E.good (of_row Methods i (asked i) (omega arith) (at_entry i))) (E.entries i u (asked i) (at_entry i)))
        | no u ↦ let c : m ≡ i = omega arith in subst (λ n. meets x r (asked n) ≡ true) c (subst (λ q. meets x q (asked m) ≡ true) (sym z) (own_met E.passed s E.good (asked m) b))
      ]

-- of tables and a shape that are the file's own
module _ {f : List ℕ} {t : Tables} {x : Shape} {s : List ℕ} (ready : Ready f t x s) where
  pub pass : judge_of f ≡ Pass
  pass = subst (λ y. judge_in f y ≡ Pass) ready.own ready.passed

  long : length s ≡ sheet_bytes (shape_of (tables_of f))
  long = subst (λ y. length s ≡ sheet_bytes (shape_of y)) ready.own (subst (λ y. length s ≡ sheet_bytes y) ready.shaped ready.long)

  pub entered_start : {r : List ℕ} (v w : Bool) → (r, w) ≡ start_walk f t x sheet_of (lowers x) (blanked s, v) → Entered f t x 0 r
  entered_start {r} v w =
      own ready (λ y z. Ready f y z (blanked s) → (r, w) ≡ start_walk f y z sheet_of (lowers z) (blanked s, v) → Entered f y z 0 r)
      (λ q. own_start f (blanked s) r v w q pass (blank_good f pass s long)) (still_ready ready (blank_length s))

pub entered_more : {f : List ℕ} {t : Tables} {x : Shape} {m : ℕ} {s r : List ℕ} (v w : Bool) → m < t.methods → Entered f t x m s → (r, w) ≡ entry_walk f t x sheet_of (lowers x) m (s, v) → Entered f t x (m + 1) r
entered_more {f} {t} {x} {m} {s} {r} v w l E =
    own E.ready (λ y z. m < y.methods → Entered f y z m s → (r, w) ≡ entry_walk f y z sheet_of (lowers z) m (s, v) → Entered f y z (m + 1) r) (own_more f m s r v w) l E
