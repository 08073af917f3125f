-- Whatever the rows ask of good sheets, runs bring. A call row may mix what it took of one good sheet, when its turn came, with what it finds
-- in another, when it asks: that a run brings what it took stays true while the sheet falls.
--   asks_brought
use Prim.Native.Nat.{ℕ, suc, ◌+◌, ◌<◌}
use mathlib.Core.Path.{◌≡◌, refl, sym, subst}
use mathlib.Core.Bool.{Bool, true}
use mathlib.Core.List.{List}
use native.Mathlib.Omega.{arith}
use native.Mathlib.Numerals.{one-add}
use lib.Dec.{leb}
use borrow.Author.Tests.{leb-true, eqb-true}
use Rattle.words.proofs.Tests.{and_l, and_r}
use Rattle.answer.specs.declared.Answer.TheVariants.{Pass}
use Rattle.effect.specs.declared.Stock.{Stock}
use Rattle.effect.specs.declared.Effect.{Effect}
use Rattle.effect.specs.Whole.{nothing_done, then_of, apply_of}
use Rattle.model.specs.Machine.{Uncaught}
use Rattle.model.specs.Rules.{Sheet}
use Rattle.model.specs.Rounds.{whole_rounds}
use Rattle.model.specs.Stocks.{permits, step_of}
use Rattle.model.proofs.Setting.{Setting}
use Rattle.model.proofs.Attained.{Attained, MethodHit, NodeHit, ExitHit}
use Rattle.model.proofs.Brought as brought
use Rattle.graph_tables.specs.declared.Tables.{Tables}
use Rattle.graph_tables.specs.declared.Table.{Table}
use Rattle.graph_tables.specs.declared.Table.TheVariants.{Flow}
use Rattle.graph_tables.specs.Rows.{rows_of}
use Rattle.graph_tables.specs.Trailer.{tables_of}
use Rattle.graph_tables.specs.Kinds.{draw_kind}
use Rattle.graph_tables.specs.Fields.{entry_of, node_method, node_kind, node_number, node_count, flow_from, flow_to, call_node, call_method, catch_to}
use Rattle.graph_refuse.proofs.Fit.{entry_fit, node_fit, flow_fit, call_fit, catch_fit}
use Rattle.graph_rows.proofs.Stretches.{of_stretch}
use Rattle.graph.specs.Judge.{judge_of}
use Rattle.graph.specs.Judgement.{shape_of}
use Rattle.graph.specs.Graph.{graph_of}
use Rattle.graph.proofs.Passed.{Judged, judged}
use Rattle.graph.proofs.Whole.{limits}
use Rattle.graph.proofs.Rises.{rises}
use Rattle.graph.proofs.Caught.{of_catches, uncaught_true}
use Rattle.graph_nodes.specs.Nodes.{does_in, opening_in}
use Rattle.graph_nodes.proofs.Setting.{setting}
use Rattle.sheet_layout.specs.declared.Shape.{Shape}
use Rattle.sheet_layout.specs.Layout.{method_at, exit_at, node_at}
use Rattle.sheet.specs.Read.{marked}
use Rattle.sheet.proofs.Marked.{mark_true}
use Rattle.sheet_formed.specs.Sheet.{sheet_in}
use Rattle.rule_ask.specs.Gives.{goes_in, stepped_in, called_in}
use Rattle.rule_ask.specs.Walk.{Ask, of_effect, of_stock}
use Rattle.rule_ask.proofs.Given as goal
use Rattle.rule_ask.proofs.Asks.{LeavingAsks, to_handler, to_exit, CallAsks, after_call, into_call, from_call, RowAsks, at_entry, along_flow, at_return, at_throw, of_call, Asks, at_start, of_row}
use Rattle.engine_lower.proofs.Good.{Stands, StockStands, Good}
use Rattle.engine_lower.proofs.Stands.{nothing_stands, then_stands, apply_stands, whole_rounds_stands, earlier_rounds_stands, step_stands, opening_stands, read_stands, exit_read_stands, stock_read_stands}
use Rattle.engine_row.proofs.Mixed.{mixed, attained_mixed}

module _ (f : List ℕ) (pass : judge_of f ≡ Pass) where
  abbrev t : Tables
  t = tables_of f

  abbrev x : Shape
  x = shape_of t

  abbrev S : Setting
  S = setting f pass

  j : Judged f t
  j = judged f t pass

  abbrev said : List ℕ → Sheet permits
  said s = sheet_in x s

  -- asked of a node, an exit or a method of the file: what may stand in its block, and what runs bring there
  pub data Brought : Ask → Type 0 where
    of_node : (r n : ℕ) (e : Effect) → n < t.nodes → Stands t.types e → NodeHit S n e → Brought (of_effect r (node_at x n) e)
    of_exit : (r m y : ℕ) (e : Effect) → m < t.methods → y < 9 → Stands t.types e → ExitHit S m y e → Brought (of_effect r (exit_at x m y) e)
    of_method : (r m : ℕ) (h : Stock) → m < t.methods → StockStands t.types h → MethodHit S m h → Brought (of_stock r (method_at x m) h)

  method_inside : (n : ℕ) → n < t.nodes → node_method f t n < t.methods
  method_inside n l = (node_fit f t n (j.nodes n l)).method

  -- 4 and 6, 9 and 10: the exception e comes to the node n with y
  module _ (n e : ℕ) (y : Effect) (l : n < t.nodes) (small : e < 8) (stands : Stands t.types y)
      (caught : (h : ℕ) → (graph_of f).Catch n e h → NodeHit S h y) (out : Uncaught (graph_of f) n e → ExitHit S (node_method f t n) (suc e) y) where
    leaving_brought : {c o : ℕ} {a : Ask} → LeavingAsks f t x c o n e y a → Brought a
    leaving_brought (to_handler k u i) =
        let w = of_catches f t j n e small k i in
        of_node _ (catch_to f t k) y (catch_fit f t k (j.catches k w.0)).to stands (caught (catch_to f t k) (k, w.0, w.1, w.2, refl, small))
    leaving_brought (to_exit u) =
        of_exit _ (node_method f t n) (1 + e) y (method_inside n l) (omega arith) stands
        (subst (λ i. ExitHit S (node_method f t n) i y) (sym (one-add e)) (out (uncaught_true f t j n e small u)))

  module _ (s : List ℕ) (G : Good f pass s) where
    node_stands : (n : ℕ) → (said s).Node n → Stands t.types ((said s).node n)
    node_stands n y = read_stands x s G.whole n y.0 y.1

    exit_stands : (m y : ℕ) → (said s).Exit m y → Stands t.types ((said s).exit m y)
    exit_stands m y e = exit_read_stands x s G.whole m y e.0 e.1 e.2

  -- row k of the calls, whose node is marked in the sheet r when its turn comes
  module _ (r : List ℕ) (H : Good f pass r) (k : ℕ) (l : k < t.calls) (q : marked r (node_at x (call_node f t k)) ≡ true) where
    abbrev R : Sheet permits
    R = said r

    abbrev n : ℕ
    n = call_node f t k

    abbrev m : ℕ
    m = call_method f t k

    abbrev returns : ℕ → Bool
    returns i = marked r (exit_at x i 0)

    abbrev before : Effect
    before = goal.before f t x r k

    own_node : n < t.nodes
    own_node = (call_fit f t k (j.calls k l)).node

    own_method : m < t.methods
    own_method = (call_fit f t k (j.calls k l)).method

    is_call : (graph_of f).Call n
    is_call = (own_node, (call_fit f t k (j.calls k l)).kind)

    reached : R.Node n
    reached = (own_node, mark_true r _ q)

    exits_marked : (i : ℕ) → i < t.methods → returns i ≡ true → R.Exit i 0
    exits_marked i u h = (u, omega arith, mark_true r _ h)

    before_stands : Stands t.types before
    before_stands =
        earlier_rounds_stands t.types (R.node n) (R.exit m 0) (node_stands r H n reached) (returns m)
        (λ h. exit_stands r H m 0 (exits_marked m own_method h)) (node_count f t n)

    -- what it asks where it finds the sheet s
    module _ (s : List ℕ) (G : Good f pass s) where
      abbrev T : Sheet permits
      T = said s

      abbrev M : Sheet permits
      M = mixed permits R T

      B : Attained S M
      B = attained_mixed S R T H.attained G.attained

      call_brought : {a : Ask} → CallAsks f t x (called_in f t x r k) s a → Brought a
      unfolding called_in
      call_brought (after_call i h u) =
          let w = of_stretch f t Flow (rises f t j Flow) n i u in
          let y = exits_marked m own_method h in
          subst (λ e. Brought (of_effect 7 (node_at x (flow_to f t i)) e)) (sym (goal.whole_is f t x r k q h))
          (of_node 7 (flow_to f t i) (whole_rounds permits (R.node n) (R.exit m 0) (node_count f t n)) (flow_fit f t i (j.flows i w.0)).to
          (whole_rounds_stands t.types (R.node n) (R.exit m 0) (node_stands r H n reached) (exit_stands r H m 0 y) (node_count f t n))
          (brought.after_call S R H.attained returns exits_marked n m (flow_to f t i) is_call reached (k, l, refl, refl) y (i, w.0, w.1, refl)))
      call_brought (into_call h) =
          let c = node_method f t n in
          let z : T.Called c = (method_inside n own_node, mark_true s _ h) in
          subst (λ e. Brought (of_stock 8 (method_at x m) (apply_of e (T.stock c)))) (sym (goal.earlier_is f t x r k q))
          (of_method 8 m (apply_of before (T.stock c)) own_method (apply_stands t.types before (T.stock c) before_stands (stock_read_stands x s G.whole c z.0 z.1))
          (brought.into_call S M B returns exits_marked n m is_call (reached, z) (k, l, refl, refl)))
      call_brought (from_call e a small h g) =
          let z : T.Exit m (suc e) = (own_method, omega arith, mark_true s _ (rw (← one-add e) h)) in
          leaving_brought n e (then_of before (T.exit m (suc e))) own_node small (then_stands t.types before (T.exit m (suc e)) before_stands (exit_stands s G m (suc e) z))
          (λ i w. brought.from_call S M B returns exits_marked n m e i is_call reached (k, l, refl, refl) z w)
          (λ u. brought.through_call S M B returns exits_marked n m e is_call reached (k, l, refl, refl) z u)
          (subst (λ o. LeavingAsks f t x 9 10 n e o a) (goal.thrown_is f t x r k q s e) g)

  -- a row whose turn came at r, and that asks where it finds s
  module _ (r s : List ℕ) (H : Good f pass r) (G : Good f pass s) where
    row_brought : {table : Table} {k : ℕ} {a : Ask} → k < rows_of t table → RowAsks f t x r s table k a → Brought a
    unfolding goes_in stepped_in called_in
    row_brought l (at_entry m) =
        of_node 2 (entry_of f m) nothing_done (entry_fit f t m (j.entries m l)).inside (nothing_stands t.types) (brought.at_entry S (said s) G.attained m l)
    row_brought l (along_flow k h) =
        let fit = flow_fit f t k (j.flows k l) in
        let n = flow_from f t k in
        let step = step_of (does_in f t n) in
        let y : (said s).Node n = (fit.from, mark_true s _ (and_r (leb (node_kind f t n) draw_kind) _ h)) in
        of_node 3 (flow_to f t k) (then_of ((said s).node n) step) fit.to (then_stands t.types ((said s).node n) step (node_stands s G n y) (step_stands f pass n))
        (brought.along_flow S (said s) G.attained n (flow_to f t k) (fit.from, leb-true _ _ (and_l (leb (node_kind f t n) draw_kind) _ h)) y (k, l, refl, refl))
    row_brought l (at_return n h g) =
        let y : (said s).Node n = (l, mark_true s _ h) in
        of_exit 5 (node_method f t n) 0 ((said s).node n) (method_inside n l) (omega arith) (node_stands s G n y) (brought.at_return S (said s) G.attained n (l, eqb-true _ _ g) y)
    row_brought l (at_throw n a h q g w) =
        let y : (said s).Node n = (l, mark_true s _ h) in
        let kind = eqb-true _ _ g in
        let e = node_number f t n in
        leaving_brought n e ((said s).node n) l (omega (arith, (node_fit f t n (j.nodes n l)).exception kind)) (node_stands s G n y)
        (λ i c. brought.to_handler S (said s) G.attained n e i ((l, kind), refl) y c) (λ u. brought.at_throw S (said s) G.attained n e ((l, kind), refl) y u) w
    row_brought l (of_call k a h w) = call_brought r H k l h s G w

    pub asks_brought : {a : Ask} → Asks f t x r s a → Brought a
    asks_brought at_start = of_method 1 0 (opening_in f t) (limits f pass).some_method (opening_stands f pass) (brought.at_start S (said s) G.attained)
    asks_brought (of_row table k a l h) = row_brought l h
