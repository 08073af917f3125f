-- What a row asks depends on the blocks that it comes from: where these stand as they were, it asks the same.
--   stays
use Prim.Native.Nat.{ℕ, ◌+◌, ◌<◌}
use mathlib.Core.Path.{◌≡◌, sym, ap, subst, ◌∙◌}
use mathlib.Core.Bool.{◌&&◌}
use mathlib.Core.List.{List}
use native.Mathlib.Omega.{arith}
use lib.Dec.{leb, eqb}
use Rattle.effect.specs.Whole.{then_of, apply_of}
use Rattle.model.specs.Stocks.{step_of}
use Rattle.rule_rounds.specs.Rounds.{rounds_of}
use Rattle.graph_tables.specs.declared.Tables.{Tables}
use Rattle.graph_tables.specs.declared.Table.{Table}
use Rattle.graph_tables.specs.declared.Table.TheVariants.{Trailer, Methods, Nodes, Flow, Calls, Parents, Catches, Opening}
use Rattle.graph_tables.specs.Kinds.{draw_kind}
use Rattle.graph_tables.specs.Fields.{node_method, node_kind, node_count, node_number, flow_from, flow_to, call_node, call_method}
use Rattle.graph_nodes.specs.Nodes.{does_in}
use Rattle.sheet_layout.specs.declared.Shape.{Shape}
use Rattle.sheet_layout.specs.Layout.{stock_size, effect_size, method_at, exit_at, node_at}
use Rattle.sheet.specs.Read.{SameWords, marked}
use Rattle.sheet.proofs.Same.{mark_same, stock_same, effect_same}
use Rattle.rule_ask.specs.declared.Gives.{Gives}
use Rattle.rule_ask.specs.Gives.{node_effect, exit_effect, goes_in, stepped_in, called_in, thrown_in}
use Rattle.rule_ask.specs.Walk.{Ask, of_effect, of_stock}
use Rattle.rule_ask.proofs.Asks.{LeavingAsks, CallAsks, after_call, into_call, from_call, RowAsks, at_entry, along_flow, at_return, at_throw, of_call}

module _ (f : List ℕ) (t : Tables) (x : Shape) (s r : List ℕ) where
  -- a node, an exit, a method stand as they were
  abbrev pub NodeSame : ℕ → Type 0
  NodeSame n = SameWords s r (node_at x n) (effect_size x.types)

  abbrev pub ExitSame : ℕ → ℕ → Type 0
  ExitSame m y = SameWords s r (exit_at x m y) (effect_size x.types)

  abbrev pub MethodSame : ℕ → Type 0
  MethodSame m = SameWords s r (method_at x m) (stock_size x.types)

  -- and so does all that row k comes from
  abbrev pub RowSame : Table → ℕ → Type 0
  RowSame Trailer k = Unit {0}
  RowSame Methods k = Unit {0}
  RowSame Nodes k = NodeSame k
  RowSame Flow k = NodeSame (flow_from f t k)
  RowSame Calls k = NodeSame (call_node f t k) × ((y : ℕ) → y < 9 → ExitSame (call_method f t k) y) × MethodSame (node_method f t (call_node f t k))
  RowSame Parents k = Unit {0}
  RowSame Catches k = Unit {0}
  RowSame Opening k = Unit {0}

  marked_same : (w n : ℕ) → 0 < n → SameWords s r w n → marked s w ≡ marked r w
  unfolding marked
  marked_same w n l h = ap (λ v. eqb v 1) (mark_same s r w l h)

  node_marked : (n : ℕ) → NodeSame n → marked s (node_at x n) ≡ marked r (node_at x n)
  node_marked n h = marked_same (node_at x n) (effect_size x.types) (omega arith) h

  node_said : (n : ℕ) → NodeSame n → node_effect x s n ≡ node_effect x r n
  node_said n h = effect_same s r (node_at x n) x.types h

  exit_marked : (m y : ℕ) → ExitSame m y → marked s (exit_at x m y) ≡ marked r (exit_at x m y)
  exit_marked m y h = marked_same (exit_at x m y) (effect_size x.types) (omega arith) h

  exit_said : (m y : ℕ) → ExitSame m y → exit_effect x s m y ≡ exit_effect x r m y
  exit_said m y h = effect_same s r (exit_at x m y) x.types h

  goes_same : (n : ℕ) → NodeSame n → goes_in f t x s n ≡ goes_in f t x r n
  unfolding goes_in
  goes_same n h = ap (λ v. leb (node_kind f t n) draw_kind && v) (node_marked n h)

  stepped_same : (n : ℕ) → NodeSame n → stepped_in f t x s n ≡ stepped_in f t x r n
  unfolding stepped_in
  stepped_same n h = ap (λ v. then_of v (step_of (does_in f t n))) (node_said n h)

  called_same : (k : ℕ) → NodeSame (call_node f t k) → ExitSame (call_method f t k) 0 → called_in f t x s k ≡ called_in f t x r k
  unfolding called_in
  called_same k h g =
      let a = node_marked (call_node f t k) h in
      let b = exit_marked (call_method f t k) 0 g in
      let c = node_said (call_node f t k) h in
      let d = exit_said (call_method f t k) 0 g in
      λ i. record {
        node = call_node f t k;
        method = call_method f t k;
        marked = a i;
        returns = b i;
        rounds = rounds_of (c i) (a i && b i) (d i) (node_count f t (call_node f t k));
      }

  -- a call that gave c
  call_stays : (c : Gives) → ((y : ℕ) → y < 9 → ExitSame c.method y) → MethodSame (node_method f t c.node) → {a : Ask} → CallAsks f t x c r a → CallAsks f t x c s a
  unfolding thrown_in
  call_stays c exits method (after_call j h i) = after_call j h i
  call_stays c exits method (into_call h) =
      let w = method_at x (node_method f t c.node) in
      subst (λ v. CallAsks f t x c s (of_stock 8 (method_at x c.method) (apply_of c.rounds.earlier v))) (stock_same s r w x.types method)
      (into_call (marked_same w (stock_size x.types) (omega arith) method ∙ h))
  call_stays c exits method (from_call e a l h g) =
      let same = exits (1 + e) (omega arith) in
      from_call e a l (exit_marked c.method (1 + e) same ∙ h)
      (subst (λ v. LeavingAsks f t x 9 10 c.node e (then_of c.rounds.earlier v) a) (sym (exit_said c.method (1 + e) same)) g)

  pub stays : (table : Table) (k : ℕ) → RowSame table k → {a : Ask} → RowAsks f t x r r table k a → RowAsks f t x s s table k a
  unfolding called_in
  stays table k h (at_entry m) = at_entry m
  stays table k h (along_flow j q) =
      let n = flow_from f t j in
      subst (λ v. RowAsks f t x s s Flow j (of_effect 3 (node_at x (flow_to f t j)) v)) (stepped_same n h) (along_flow j (goes_same n h ∙ q))
  stays table k h (at_return n m q) =
      subst (λ v. RowAsks f t x s s Nodes n (of_effect 5 (exit_at x (node_method f t n) 0) v)) (node_said n h) (at_return n (node_marked n h ∙ m) q)
  stays table k h (at_throw n a m q g w) =
      at_throw n a (node_marked n h ∙ m) q g (subst (λ v. LeavingAsks f t x 4 6 n (node_number f t n) v a) (sym (node_said n h)) w)
  stays table k h (of_call j a q w) =
      let e = called_same j h.0 (h.1 0 (omega arith)) in
      of_call j a (ap (λ c. c.marked) e ∙ q)
      (subst (λ c. CallAsks f t x c s a) (sym e) (call_stays (called_in f t x r j) h.1 h.2 w))
