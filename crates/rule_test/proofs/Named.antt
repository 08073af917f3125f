-- What the rows ask on the bytes is what the rules name: of a well-formed sheet of a file that passes, each ask is of a block that a rule leads
-- to and, at each coordinate, no less than what the rule names there; and for all that a rule names there is an ask that is at most that.
use Prim.Native.Nat.{ℕ, suc, ◌≤◌, ◌<◌}
use mathlib.Core.Path.{◌≡◌, refl, sym, subst, ◌∙◌}
use mathlib.Core.Logic.{inl, inr}
use mathlib.Core.Bool.{Bool, true, false}
use mathlib.Core.List.{List}
use native.Mathlib.Nat.{le_refl}
use native.Mathlib.Omega.{arith}
use native.Mathlib.Numerals.{one-add}
use lib.Dec.{leb}
use borrow.Author.Tests.{le-leb, leb-true, eq-eqb, eqb-true, ne_eqb}
use Rattle.words.proofs.Tests.{and_l, and_r}
use Rattle.answer.specs.declared.Answer.TheVariants.{Pass}
use Rattle.effect.specs.declared.Stock.{Stock}
use Rattle.effect.specs.declared.Effect.{Effect}
use Rattle.effect.specs.Whole.{then_of, apply_of}
use Rattle.effect.specs.Coordinate.{Coordinate, at}
use Rattle.effect.proofs.Bools.{and_i}
use Rattle.model.specs.Machine.{Uncaught}
use Rattle.model.specs.Rules.{Sheet, Below, AtMost, Reached, Rounds, times, AskMethod, AskNode, AskExit, rule1, rule2, rule3, rule4, rule5, rule6, rule7, rule8, rule9, rule10}
use Rattle.model.specs.Rounds.{whole_rounds}
use Rattle.model.specs.Stocks.{permits}
use Rattle.model.specs.Program.{steps}
use Rattle.model.proofs.Setting.{then_low}
use Rattle.model.proofs.Rounds.{Before, whole_under, whole_hit, earlier_under, earlier_hit}
use Rattle.graph_tables.specs.declared.Tables.{Tables}
use Rattle.graph_tables.specs.declared.Table.{Table}
use Rattle.graph_tables.specs.declared.Table.TheVariants.{Methods, Nodes, Flow, Calls}
use Rattle.graph_tables.specs.Rows.{rows_of}
use Rattle.graph_tables.specs.Trailer.{tables_of}
use Rattle.graph_tables.specs.Kinds.{draw_kind, return_kind, throw_kind}
use Rattle.graph_tables.specs.Fields.{entry_of, node_method, node_kind, node_number, node_count, flow_from, flow_to, call_node, call_method, catch_to}
use Rattle.graph_refuse.proofs.Fit.{entry_fit, node_fit, flow_fit, call_fit, catch_fit}
use Rattle.graph.specs.Judge.{judge_of}
use Rattle.graph.specs.Judgement.{shape_of}
use Rattle.graph.specs.Graph.{OfKind, graph_of}
use Rattle.graph.proofs.Passed.{Judged, judged}
use Rattle.graph.proofs.Rises.{rises}
use Rattle.graph.proofs.Whole.{limits, formed}
use Rattle.graph.proofs.Caught.{in_catches, of_catches, uncaught_true, uncaught_false}
use Rattle.graph_rows.specs.Rows.{catches_of, uncaught_of}
use Rattle.graph_rows.proofs.Stretches.{In, in_stretch, of_stretch}
use Rattle.graph_nodes.specs.Nodes.{opening_in}
use Rattle.graph_nodes.specs.Program.{program_of}
use Rattle.graph_nodes.proofs.Setting.{setting}
use Rattle.sheet_layout.specs.declared.Shape.{Shape}
use Rattle.sheet_layout.specs.Layout.{method_at, exit_at, node_at}
use Rattle.sheet.specs.Read.{marked}
use Rattle.sheet.proofs.Marked.{mark_true, true_mark}
use Rattle.sheet_formed.specs.Sheet.{sheet_in}
use Rattle.rule_ask.specs.declared.Gives.{Gives}
use Rattle.rule_ask.specs.Gives.{goes_in, stepped_in, called_in, thrown_in}
use Rattle.rule_ask.specs.Walk.{Ask, of_effect, of_stock}
use Rattle.rule_ask.proofs.Given as goal
use Rattle.rule_ask.proofs.Asks.{LeavingAsks, to_handler, to_exit, CallAsks, after_call, into_call, from_call, RowAsks, at_entry, along_flow, at_return, at_throw, of_call, Asks, at_start, of_row}

-- what is asked is what it is equal to
low_by : (v : Coordinate) (u : Stock) {a : ℕ} {d e : Effect} → d ≡ e → a ≤ at v (apply_of e u) → a ≤ at v (apply_of d u)
low_by v u {a} p l = subst (λ b. a ≤ at v (apply_of b u)) (sym p) l

most_by : (d e c : Effect) → d ≡ e → AtMost permits e c → AtMost permits d c
most_by d e c p l = subst (λ b. AtMost permits b c) (sym p) l

module _ (f : List ℕ) (pass : judge_of f ≡ Pass) (s : List ℕ) where
  abbrev t : Tables
  t = tables_of f

  abbrev x : Shape
  x = shape_of t

  abbrev T : Sheet permits
  T = sheet_in x s

  -- what the rule r names, for the block of a method, a node, an exit
  abbrev pub OfMethod : ℕ → ℕ → Stock → Type 0
  OfMethod = AskMethod permits (graph_of f) (steps (program_of f)) (opening_in f t) T

  abbrev pub OfNode : ℕ → ℕ → Effect → Type 0
  OfNode = AskNode permits (graph_of f) (steps (program_of f)) (opening_in f t) T

  abbrev pub OfExit : ℕ → ℕ → ℕ → Effect → Type 0
  OfExit = AskExit permits (graph_of f) (steps (program_of f)) (opening_in f t) T

  -- an ask is of a block that its rule leads to, and each coordinate has something that the rule names and that is no more
  pub data Names : Ask → Type 0 where
    names_method : (r m : ℕ) (h : Stock) → m < t.methods → ((i : Coordinate) → (g : Stock) × OfMethod r m g × (at i g ≤ at i h)) → Names (of_stock r (method_at x m) h)
    names_node : (r n : ℕ) (e : Effect) → n < t.nodes
        → ((u : Stock) (i : Coordinate) → (d : Effect) × OfNode r n d × (at i (apply_of d u) ≤ at i (apply_of e u))) → Names (of_effect r (node_at x n) e)
    names_exit : (r m y : ℕ) (e : Effect) → m < t.methods → y < 9
        → ((u : Stock) (i : Coordinate) → (d : Effect) × OfExit r m y d × (at i (apply_of d u) ≤ at i (apply_of e u))) → Names (of_effect r (exit_at x m y) e)

  -- what is named itself
  a_node : (r n : ℕ) (e : Effect) → n < t.nodes → OfNode r n e → Names (of_effect r (node_at x n) e)
  a_node r n e l h = names_node r n e l (λ u i. (e, h, le_refl _))

  an_exit : (r m y : ℕ) (e : Effect) → m < t.methods → y < 9 → OfExit r m y e → Names (of_effect r (exit_at x m y) e)
  an_exit r m y e l k h = names_exit r m y e l k (λ u i. (e, h, le_refl _))

  j : Judged f t
  j = judged f t pass

  -- the rows for the exception e at the node n, in the graph and as a stretch
  module _ (n e : ℕ) (small : e < 8) where
    caught_in : {h : ℕ} → (graph_of f).Catch n e h → (k : ℕ) × In (catches_of f t n e) k × (catch_to f t k ≡ h)
    caught_in w = (w.0, in_catches f t j n e small w.0 w.1 w.2 w.3, w.4)

    in_caught : (k : ℕ) → In (catches_of f t n e) k → (catch_to f t k < t.nodes) × (graph_of f).Catch n e (catch_to f t k)
    in_caught k i = let w = of_catches f t j n e small k i in ((catch_fit f t k (j.catches k w.0)).to, (k, w.0, w.1, w.2, refl, small))

    not_caught : Uncaught (graph_of f) n e → uncaught_of f t n e ≡ true
    not_caught u = go (uncaught_of f t n e) refl
      where
        go : (b : Bool) → uncaught_of f t n e ≡ b → uncaught_of f t n e ≡ true
        go true q = q
        go false q = let w = uncaught_false f t j n e small q in absurd (u w.0 w.1)

    some_caught : {h : ℕ} → (graph_of f).Catch n e h → uncaught_of f t n e ≡ false
    some_caught {h} w = go (uncaught_of f t n e) refl
      where
        go : (b : Bool) → uncaught_of f t n e ≡ b → uncaught_of f t n e ≡ false
        go true q = absurd (uncaught_true f t j n e small q h w)
        go false q = q

  -- a throw's exception is one of the eight
  eight : (n : ℕ) → OfKind f t throw_kind n → node_number f t n < 8
  eight n h = omega (arith, (node_fit f t n (j.nodes n h.0)).exception h.1)

  not_return : {k : ℕ} → k ≡ throw_kind → k ≡ return_kind → ⊥
  not_return p q = omega arith

  -- marks
  abbrev returns : ℕ → Bool
  returns m = marked s (exit_at x m 0)

  -- what row k of the calls gives
  module _ (k : ℕ) (l : k < t.calls) where
    abbrev C : Gives
    C = called_in f t x s k

    abbrev n : ℕ
    n = call_node f t k

    abbrev m : ℕ
    m = call_method f t k

    inside : n < t.nodes
    inside = (call_fit f t k (j.calls k l)).node

    into : m < t.methods
    into = (call_fit f t k (j.calls k l)).method

    own : node_method f t n < t.methods
    own = (node_fit f t n (j.nodes n inside)).method

    is_call : (graph_of f).Call n
    is_call = (inside, (call_fit f t k (j.calls k l)).kind)

    some : 1 ≤ node_count f t n
    some = (formed f pass).some_repeats n is_call

    mark_is : C.marked ≡ marked s (node_at x n)
    unfolding called_in
    mark_is = refl

    whole_is : T.Node n → returns m ≡ true → C.rounds.whole ≡ whole_rounds permits (T.node n) (T.exit m 0) (node_count f t n)
    whole_is y = goal.whole_is f t x s k (true_mark s _ y.1)

    abbrev before : Effect
    before = goal.before f t x s k

    earlier_is : T.Node n → C.rounds.earlier ≡ before
    earlier_is y = goal.earlier_is f t x s k (true_mark s _ y.1)

    thrown_is : (e : ℕ) → T.Node n → thrown_in x s C e ≡ then_of before (T.exit m (suc e))
    thrown_is e y = goal.thrown_is f t x s k (true_mark s _ y.1) s e

    -- rounds before, as the rule counts them and as the test does
    of_before : {i : ℕ} → Before permits (setting f pass).laws (T.node n) (T.exit m 0) (returns m) (node_count f t n) i → Rounds permits (graph_of f) (steps (program_of f)) (opening_in f t) T n m i
    of_before (a, inl e) = (a, inl e)
    of_before (a, inr e) = (a, inr (into, omega arith, mark_true s _ e))

    to_before : {i : ℕ} → Rounds permits (graph_of f) (steps (program_of f)) (opening_in f t) T n m i → Before permits (setting f pass).laws (T.node n) (T.exit m 0) (returns m) (node_count f t n) i
    to_before (a, inl e) = (a, inl e)
    to_before (a, inr e) = (a, inr (true_mark s _ e.2))

    -- at each coordinate, what is left of some rounds and an exception is no more than what is asked for
    thrown_hit : (e : ℕ) → T.Node n → (u : Stock) (v : Coordinate)
        → (i : ℕ) × Rounds permits (graph_of f) (steps (program_of f)) (opening_in f t) T n m i × (at v (apply_of (then_of (then_of (T.node n) (times permits i (T.exit m 0))) (T.exit m (suc e))) u) ≤ at v (apply_of (thrown_in x s C e) u))
    thrown_hit e y u v =
        let h = earlier_hit permits (setting f pass).laws (T.node n) (T.exit m 0) (returns m) (node_count f t n) some v u in
        (h.0, of_before h.1, low_by v u (thrown_is e y) (then_low permits (setting f pass).laws _ before (T.exit m (suc e)) v u h.2))

  -- Each ask is named.

  -- where the exception e comes to the node n
  leaving_names : {c o n e : ℕ} {y : Effect} {a : Ask} → n < t.nodes → e < 8
      → ((h : ℕ) → (graph_of f).Catch n e h → (u : Stock) (i : Coordinate) → (d : Effect) × OfNode c h d × (at i (apply_of d u) ≤ at i (apply_of y u)))
      → (Uncaught (graph_of f) n e → (u : Stock) (i : Coordinate) → (d : Effect) × OfExit o (node_method f t n) (suc e) d × (at i (apply_of d u) ≤ at i (apply_of y u)))
      → LeavingAsks f t x c o n e y a → Names a
  leaving_names {c} {o} {n} {e} {y} l small p q (to_handler k u i) =
      let w = in_caught n e small k i in
      names_node c (catch_to f t k) y w.0 (p (catch_to f t k) w.1)
  leaving_names {c} {o} {n} {e} {y} l small p q (to_exit u) =
      subst (λ z. Names (of_effect o (exit_at x (node_method f t n) z) y)) (sym (one-add e))
      (names_exit o (node_method f t n) (suc e) y (node_fit f t n (j.nodes n l)).method (omega arith) (q (uncaught_true f t j n e small u)))

  call_names : (k : ℕ) (l : k < t.calls) → T.Node (call_node f t k) → {a : Ask} → CallAsks f t x (called_in f t x s k) s a → Names a
  unfolding called_in
  call_names k l y (after_call i r a) =
      let n = call_node f t k in
      let m = call_method f t k in
      let w = of_stretch f t Flow (rises f t j Flow) n i a in
      let z : T.Exit m 0 = (into k l, omega arith, mark_true s _ r) in
      names_node 7 (flow_to f t i) (C k l).rounds.whole (flow_fit f t i (j.flows i w.0)).to
      (λ u v.
      let h = whole_hit permits (setting f pass).laws (T.node n) (T.exit m 0) (node_count f t n) (some k l) v u in
      (_, rule7 (is_call k l) y (k, l, refl, refl) z (i, w.0, w.1, refl) h.0 h.1 h.2, low_by v u (whole_is k l y r) h.3))
  call_names k l y (into_call r) =
      let n = call_node f t k in
      let m = call_method f t k in
      let held = T.stock (node_method f t n) in
      names_method 8 m (apply_of (C k l).rounds.earlier held) (into k l)
      (λ v.
      let h = earlier_hit permits (setting f pass).laws (T.node n) (T.exit m 0) (returns m) (node_count f t n) (some k l) v held in
      (_, rule8 (is_call k l) (y, (own k l, mark_true s _ r)) (k, l, refl, refl) h.0 (of_before k l h.1), low_by v held (earlier_is k l y) h.2))
  call_names k l y (from_call e a small r h) =
      let n = call_node f t k in
      let m = call_method f t k in
      let z : T.Exit m (suc e) = (into k l, omega arith, mark_true s _ (rw (← one-add e) r)) in
      leaving_names (inside k l) small
      (λ b w u v. let g = thrown_hit k l e y u v in (_, rule9 (is_call k l) y (k, l, refl, refl) z w g.0 g.1, g.2))
      (λ w u v. let g = thrown_hit k l e y u v in (_, rule10 (is_call k l) y (k, l, refl, refl) z w g.0 g.1, g.2)) h

  row_names : {table : Table} {k : ℕ} {a : Ask} → k < rows_of t table → RowAsks f t x s s table k a → Names a
  unfolding goes_in stepped_in called_in
  row_names l (at_entry m) = a_node 2 (entry_of f m) _ (entry_fit f t m (j.entries m l)).inside (rule2 l)
  row_names l (along_flow k q) =
      let fit = flow_fit f t k (j.flows k l) in
      a_node 3 (flow_to f t k) _ fit.to (rule3 (fit.from, leb-true (node_kind f t (flow_from f t k)) draw_kind (and_l _ (marked s (node_at x (flow_from f t k))) q)) (fit.from, mark_true s _ (and_r (leb (node_kind f t (flow_from f t k)) draw_kind) _ q)) (k, l, refl, refl))
  row_names l (at_return n m q) =
      an_exit 5 (node_method f t n) 0 _ (node_fit f t n (j.nodes n l)).method (omega arith) (rule5 (l, eqb-true _ _ q) (l, mark_true s _ m))
  row_names l (at_throw n a m q g h) =
      let kind : OfKind f t throw_kind n = (l, eqb-true _ _ g) in
      let y : T.Node n = (l, mark_true s _ m) in
      leaving_names l (eight n kind) (λ b w u i. (T.node n, rule4 (kind, refl) y w, le_refl _)) (λ w u i. (T.node n, rule6 (kind, refl) y w, le_refl _)) h
  row_names l (of_call k a q h) = call_names k l (inside k l, mark_true s _ q) h

  pub asks_named : {a : Ask} → Asks f t x s s a → Names a
  asks_named at_start = names_method 1 0 (opening_in f t) (limits f pass).some_method (λ i. (_, rule1, le_refl _))
  asks_named (of_row table k a l h) = row_names l h

  -- All that is named is asked.

  -- of a call row
  called_by : (k : ℕ) → k < t.calls → T.Node (call_node f t k) → {a : Ask} → CallAsks f t x (called_in f t x s k) s a → Asks f t x s s a
  called_by k l y {a} h = of_row Calls k a l (of_call k a (mark_is k l ∙ true_mark s _ y.1) h)

  abbrev AskedMethod : ℕ → ℕ → Stock → Type 0
  AskedMethod q m h = (g : Stock) × Asks f t x s s (of_stock q (method_at x m) g) × (m < t.methods) × Below permits g h

  abbrev AskedNode : ℕ → ℕ → Effect → Type 0
  AskedNode q n e = (d : Effect) × Asks f t x s s (of_effect q (node_at x n) d) × (n < t.nodes) × AtMost permits d e

  abbrev AskedExit : ℕ → ℕ → ℕ → Effect → Type 0
  AskedExit q m y e = (d : Effect) × Asks f t x s s (of_effect q (exit_at x m y) d) × (m < t.methods) × (y < 9) × AtMost permits d e

  at_most_refl : (e : Effect) → AtMost permits e e
  at_most_refl e u i = le_refl _

  -- rule 7, and the earlier rounds of 8 to 10
  whole_least : (k : ℕ) (l : k < t.calls) → T.Node (call_node f t k) → returns (call_method f t k) ≡ true → (i : ℕ) → 1 ≤ i → i ≤ node_count f t (call_node f t k)
      → AtMost permits (called_in f t x s k).rounds.whole (then_of (T.node (call_node f t k)) (times permits i (T.exit (call_method f t k) 0)))
  whole_least k l y r i a b = most_by _ _ _ (whole_is k l y r) (whole_under permits (setting f pass).laws _ _ _ i a b)

  earlier_least : (k : ℕ) (l : k < t.calls) → T.Node (call_node f t k) → (i : ℕ) → Rounds permits (graph_of f) (steps (program_of f)) (opening_in f t) T (call_node f t k) (call_method f t k) i
      → AtMost permits (called_in f t x s k).rounds.earlier (then_of (T.node (call_node f t k)) (times permits i (T.exit (call_method f t k) 0)))
  earlier_least k l y i r = most_by _ _ _ (earlier_is k l y) (earlier_under permits (setting f pass).laws _ _ (returns (call_method f t k)) _ i (to_before k l r))

  thrown_least : (k : ℕ) (l : k < t.calls) → T.Node (call_node f t k) → (e i : ℕ) → Rounds permits (graph_of f) (steps (program_of f)) (opening_in f t) T (call_node f t k) (call_method f t k) i
      → AtMost permits (thrown_in x s (called_in f t x s k) e) (then_of (then_of (T.node (call_node f t k)) (times permits i (T.exit (call_method f t k) 0))) (T.exit (call_method f t k) (suc e)))
  thrown_least k l y e i r =
      most_by _ _ _ (thrown_is k l e y)
      (λ u v. then_low permits (setting f pass).laws (before k l) _ (T.exit (call_method f t k) (suc e)) v u (earlier_under permits (setting f pass).laws _ _ (returns (call_method f t k)) _ i (to_before k l r) u v))

  -- what an exception asks where it comes to a node
  node_left : {c o n e h : ℕ} {y : Effect} {P : Ask → Type 0} → e < 8 → (graph_of f).Catch n e h → ((a : Ask) → LeavingAsks f t x c o n e y a → P a) → P (of_effect c (node_at x h) y)
  node_left {c} {o} {n} {e} {h} {y} {P} small w p =
      let k = caught_in n e small w in
      subst (λ b. P (of_effect c (node_at x b) y)) k.2 (p _ (to_handler k.0 (some_caught n e small w) k.1))

  exit_left : {c o n e : ℕ} {y : Effect} {P : Ask → Type 0} → e < 8 → Uncaught (graph_of f) n e → ((a : Ask) → LeavingAsks f t x c o n e y a → P a) → P (of_effect o (exit_at x (node_method f t n) (suc e)) y)
  exit_left {c} {o} {n} {e} {y} {P} small w p = subst (λ b. P (of_effect o (exit_at x (node_method f t n) b) y)) (one-add e) (p _ (to_exit (not_caught n e small w)))

  pub method_asked : {q m : ℕ} {h : Stock} → OfMethod q m h → AskedMethod q m h
  unfolding called_in
  method_asked rule1 = (_, at_start, (limits f pass).some_method, λ i. le_refl _)
  method_asked (rule8 ca y (k, l, a, b) i r) = by k l a b ca y i r
    where
      by : (k : ℕ) → k < t.calls → {c m : ℕ} → call_node f t k ≡ c → call_method f t k ≡ m → (graph_of f).Call c → Reached permits (graph_of f) T c → (i : ℕ)
          → Rounds permits (graph_of f) (steps (program_of f)) (opening_in f t) T c m i → AskedMethod 8 m (apply_of (then_of (T.node c) (times permits i (T.exit m 0))) (T.stock (node_method f t c)))
      by k l {c} {m} a b ca y i r = rw (← a, ← b) (here (rw a y) (rw (a, b) r))
        where
          here : Reached permits (graph_of f) T (call_node f t k) → Rounds permits (graph_of f) (steps (program_of f)) (opening_in f t) T (call_node f t k) (call_method f t k) i
              → AskedMethod 8 (call_method f t k) (apply_of (then_of (T.node (call_node f t k)) (times permits i (T.exit (call_method f t k) 0))) (T.stock (node_method f t (call_node f t k))))
          here y r = (_, called_by k l y.0 (into_call (true_mark s _ y.1.1)), into k l, λ v. earlier_least k l y.0 i r _ v)

  pub node_asked : {q n : ℕ} {e : Effect} → OfNode q n e → AskedNode q n e
  unfolding goes_in stepped_in called_in
  node_asked (rule2 {m} l) = (_, of_row Methods m _ l (at_entry m), (entry_fit f t m (j.entries m l)).inside, at_most_refl _)
  node_asked (rule3 {n} {n'} g y (k, l, a, b)) =
      rw (← a, ← b)
      (_, of_row Flow k _ l (along_flow k (and_i (le-leb (node_kind f t (flow_from f t k)) draw_kind (rw a g.1)) (true_mark s (node_at x (flow_from f t k)) (rw a y.1)))), (flow_fit f t k (j.flows k l)).to, at_most_refl _)
  node_asked (rule4 {n} {e} {h} (kind, a) y w) =
      let small : e < 8 = omega (arith, eight n kind, a) in (
        T.node n,
        node_left {o = 6} {P = Asks f t x s s} small w
            (λ b g. of_row Nodes n b kind.0 (at_throw n b (true_mark s _ y.1) (ne_eqb _ _ (not_return kind.1)) (eq-eqb _ _ kind.1) (subst (λ e. LeavingAsks f t x 4 6 n e (T.node n) b) (sym a) g))),
        ((formed f pass).catch_inside n e h w).1,
        at_most_refl _,
      )
  node_asked (rule7 {c} {m} {n'} ca y (k, l, a, b) z (i, li, p, q) r o w) =
      rw (← a, ← b, ← q) (here (rw a y) (rw b z) (p ∙ sym a) (rw a w))
    where
      here : T.Node (call_node f t k) → T.Exit (call_method f t k) 0 → flow_from f t i ≡ call_node f t k → r ≤ node_count f t (call_node f t k)
          → AskedNode 7 (flow_to f t i) (then_of (T.node (call_node f t k)) (times permits r (T.exit (call_method f t k) 0)))
      here y z p w = (
        _,
        called_by k l y (after_call i (true_mark s _ z.2) (in_stretch f t Flow (rises f t j Flow) (call_node f t k) i li p)),
        (flow_fit f t i (j.flows i li)).to,
        whole_least k l y (true_mark s _ z.2) r o w,
      )
  node_asked (rule9 {c} {m} {e} {h} ca y (k, l, a, b) z w i r) = rw (← a, ← b) (here (rw a y) (rw b z) (rw a w) (rw (a, b) r))
    where
      here : T.Node (call_node f t k) → T.Exit (call_method f t k) (suc e) → (graph_of f).Catch (call_node f t k) e h
          → Rounds permits (graph_of f) (steps (program_of f)) (opening_in f t) T (call_node f t k) (call_method f t k) i
          → AskedNode 9 h (then_of (then_of (T.node (call_node f t k)) (times permits i (T.exit (call_method f t k) 0))) (T.exit (call_method f t k) (suc e)))
      here y z w r =
          let small : e < 8 = omega (arith, z.1) in (
            _,
            node_left {o = 10} {P = Asks f t x s s} small w (λ d g. called_by k l y (from_call e d small (true_mark s _ (rw (one-add e) z.2)) g)),
            ((formed f pass).catch_inside (call_node f t k) e h w).1,
            thrown_least k l y e i r,
          )

  pub exit_asked : {q m y : ℕ} {e : Effect} → OfExit q m y e → AskedExit q m y e
  unfolding called_in
  exit_asked (rule5 {n} kind y) =
      (_, of_row Nodes n _ kind.0 (at_return n (true_mark s _ y.1) (eq-eqb _ _ kind.1)), (node_fit f t n (j.nodes n kind.0)).method, omega arith, at_most_refl _)
  exit_asked (rule6 {n} {e} (kind, a) y w) =
      let small : e < 8 = omega (arith, eight n kind, a) in (
        T.node n,
        exit_left {c = 4} {P = Asks f t x s s} small w
            (λ b g. of_row Nodes n b kind.0 (at_throw n b (true_mark s _ y.1) (ne_eqb _ _ (not_return kind.1)) (eq-eqb _ _ kind.1) (subst (λ e. LeavingAsks f t x 4 6 n e (T.node n) b) (sym a) g))),
        (node_fit f t n (j.nodes n kind.0)).method,
        omega arith,
        at_most_refl _,
      )
  exit_asked (rule10 {c} {m} {e} ca y (k, l, a, b) z w i r) = rw (← a, ← b) (here (rw a y) (rw b z) (rw a w) (rw (a, b) r))
    where
      here : T.Node (call_node f t k) → T.Exit (call_method f t k) (suc e) → Uncaught (graph_of f) (call_node f t k) e
          → Rounds permits (graph_of f) (steps (program_of f)) (opening_in f t) T (call_node f t k) (call_method f t k) i
          → AskedExit 10 (node_method f t (call_node f t k)) (suc e) (then_of (then_of (T.node (call_node f t k)) (times permits i (T.exit (call_method f t k) 0))) (T.exit (call_method f t k) (suc e)))
      here y z w r =
          let small : e < 8 = omega (arith, z.1) in (
            _,
            exit_left {c = 9} {P = Asks f t x s s} small w (λ d g. called_by k l y (from_call e d small (true_mark s _ (rw (one-add e) z.2)) g)),
            own k l,
            omega arith,
            thrown_least k l y e i r,
          )
