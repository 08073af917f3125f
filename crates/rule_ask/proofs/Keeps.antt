-- What each thing asked keeps, the walk keeps.
--   turn_keeps, leaving_keeps, own_keeps, row_keeps, table_keeps, sheet_keeps
use Prim.Native.Nat.{ℕ, zero, suc, ◌+◌, ◌-◌, ◌≤◌, ◌<◌}
use mathlib.Core.Path.{◌≡◌, refl}
use mathlib.Core.Bool.{Bool, true, false, cond}
use mathlib.Core.List.{List}
use native.Mathlib.Omega.{arith}
use lib.Dec.{eqb}
use Rattle.words.specs.Turn.{in_turn}
use Rattle.effect.specs.declared.Effect.{Effect}
use Rattle.graph_tables.specs.declared.Tables.{Tables}
use Rattle.graph_tables.specs.declared.Table.{Table}
use Rattle.graph_tables.specs.declared.Table.TheVariants.{Trailer, Methods, Nodes, Flow, Calls, Parents, Catches, Opening}
use Rattle.graph_tables.specs.Rows.{rows_of}
use Rattle.graph_tables.specs.Kinds.{return_kind, throw_kind}
use Rattle.graph_tables.specs.Fields.{node_method, node_kind, node_number, flow_from}
use Rattle.graph_rows.specs.declared.Stretch.{Stretch}
use Rattle.graph_rows.specs.Rows.{flow_of, catches_of, uncaught_of, target_of}
use Rattle.graph_rows.proofs.Stretches.{In}
use Rattle.sheet_layout.specs.declared.Shape.{Shape}
use Rattle.sheet_layout.specs.Layout.{method_at, exit_at, node_at}
use Rattle.sheet.specs.Read.{marked}
use Rattle.rule_ask.specs.declared.Gives.{Gives}
use Rattle.rule_ask.specs.Gives.{table_at, turned, node_effect, goes_in, called_in, thrown_in}
use Rattle.rule_ask.specs.Walk.{Ask, of_effect, rows_walk, leaving_walk, start_walk, entry_walk, flow_walk, end_walk, node_walk, after_walk, into_walk, thrown_walk, called_walk, row_walk, table_walk, tables_walk, sheet_walk}
use Rattle.rule_ask.proofs.Turned.{turned_inside}
use Rattle.rule_ask.proofs.Asks.{LeavingAsks, to_handler, to_exit, CallAsks, after_call, into_call, from_call, RowAsks, at_entry, along_flow, at_return, at_throw, of_call, Asks, at_start, of_row}

module _ {A : Type 0} (P : A → Type 0) where
  pub turn_keeps : (act : ℕ → A → A) (a n : ℕ) → ((j : ℕ) → a ≤ j → j < a + n → (z : A) → P z → P (act j z)) → (z : A) → P z → P (in_turn act a n z)
  unfolding in_turn
  turn_keeps act a zero h z p = p
  turn_keeps act a (suc n) h z p = h (a + n) (omega arith) (omega arith) _ (turn_keeps act a n (λ j l m. h j l (omega arith)) z p)

  pub if_keeps : (b : Bool) {y z : A} → (b ≡ true → P y) → P z → P (cond b y z)
  if_keeps true h p = h refl
  if_keeps false h p = p

  pub either_keeps : (b : Bool) {y z : A} → (b ≡ true → P y) → (b ≡ false → P z) → P (cond b y z)
  either_keeps true h k = h refl
  either_keeps false h k = k refl

module _ (f : List ℕ) (t : Tables) (x : Shape) {A : Type 0} (view : A → List ℕ) (take : Ask → A → A) (P : A → Type 0) where
  rows_keeps : (table : Table) (r : ℕ) (e : Effect) (s : Stretch) → ((j : ℕ) → In s j → (z : A) → P z → P (take (of_effect r (node_at x (target_of f t table j)) e) z))
      → (z : A) → P z → P (rows_walk f t x view take table r e s z)
  unfolding rows_walk
  rows_keeps table r e s h = turn_keeps P (λ j. take (of_effect r (node_at x (target_of f t table j)) e)) s.from (s.to - s.from) (λ j l m. h j (l, omega arith))

  pub leaving_keeps : (c o n e : ℕ) (y : Effect) → ((a : Ask) → LeavingAsks f t x c o n e y a → (z : A) → P z → P (take a z))
      → (z : A) → P z → P (leaving_walk f t x view take c o n e y z)
  unfolding leaving_walk
  leaving_keeps c o n e y h z p =
      either_keeps P (uncaught_of f t n e) (λ q. h _ (to_exit q) z p) (λ q. rows_keeps Catches c y (catches_of f t n e) (λ j i. h _ (to_handler j q i)) z p)

  -- what a call row gave, and what is asked by it and by a sheet that P holds of
  module _ (c : Gives) (keep : (y : A) → P y → (a : Ask) → CallAsks f t x c (view y) a → (z : A) → P z → P (take a z)) where
    pub after_keeps : (z : A) → P z → P (after_walk f t x view take c z)
    unfolding after_walk
    after_keeps z p = if_keeps P c.returns (λ q. rows_keeps Flow 7 c.rounds.whole (flow_of f t c.node) (λ j i. keep z p _ (after_call j q i)) z p) p

    pub into_keeps : (z : A) → P z → P (into_walk f t x view take c z)
    unfolding into_walk
    into_keeps z p = if_keeps P (marked (view z) (method_at x (node_method f t c.node))) (λ q. keep z p _ (into_call q) z p) p

    pub thrown_keeps : (e : ℕ) → e < 8 → (z : A) → P z → P (thrown_walk f t x view take c e z)
    unfolding thrown_walk
    thrown_keeps e small z p =
        if_keeps P (marked (view z) (exit_at x c.method (1 + e)))
        (λ q. leaving_keeps 9 10 c.node e (thrown_in x (view z) c e) (λ a h. keep z p a (from_call e a small q h)) z p) p

    called_keeps : (z : A) → P z → P (in_turn (thrown_walk f t x view take c) 0 8 (into_walk f t x view take c (after_walk f t x view take c z)))
    called_keeps z p = turn_keeps P _ 0 8 (λ e l m. thrown_keeps e (omega arith)) _ (into_keeps _ (after_keeps z p))

  -- Two sheets that P holds of, and what row k asks by them: to take it of a third keeps P.
  abbrev pub KeepsRow : Table → ℕ → Type 0
  KeepsRow table k = (w y z : A) (a : Ask) → P w → P y → RowAsks f t x (view w) (view y) table k a → P z → P (take a z)

  pub own_keeps : (table : Table) (k : ℕ) → KeepsRow table k → (z : A) → P z → P (row_walk f t x view take table k z)
  unfolding entry_walk flow_walk node_walk end_walk called_walk
  own_keeps Trailer k keep z p = p
  own_keeps Methods k keep z p = keep z z z _ p p (at_entry k) p
  own_keeps Nodes k keep z p =
      if_keeps P (marked (view z) (node_at x k))
      (λ m.
      either_keeps P (eqb (node_kind f t k) return_kind) (λ q. keep z z z _ p p (at_return k m q) p)
      (λ q. if_keeps P (eqb (node_kind f t k) throw_kind)
      (λ g. leaving_keeps 4 6 k (node_number f t k) (node_effect x (view z) k) (λ a h y r. keep z z y a p p (at_throw k a m q g h) r) z p) p)) p
  own_keeps Flow k keep z p = if_keeps P (goes_in f t x (view z) (flow_from f t k)) (λ q. keep z z z _ p p (along_flow k q) p) p
  own_keeps Calls k keep z p =
      if_keeps P (called_in f t x (view z) k).marked
      (λ q. called_keeps (called_in f t x (view z) k) (λ y py a h u pu. keep z y u a p py (of_call k a q h) pu) z p) p
  own_keeps Parents k keep z p = p
  own_keeps Catches k keep z p = p
  own_keeps Opening k keep z p = p

  -- the same of whatever is asked
  module _ (keep : (w y z : A) (a : Ask) → P w → P y → Asks f t x (view w) (view y) a → P z → P (take a z)) where
    pub row_keeps : (table : Table) (k : ℕ) → k < rows_of t table → (z : A) → P z → P (row_walk f t x view take table k z)
    row_keeps table k l = own_keeps table k (λ w y z a pw py h. keep w y z a pw py (of_row table k a l h))

    pub table_keeps : (backwards : Bool) (table : Table) (z : A) → P z → P (table_walk f t x view take backwards table z)
    unfolding table_walk
    table_keeps backwards table =
        turn_keeps P _ 0 (rows_of t table) (λ k a l. row_keeps table (turned backwards (rows_of t table) k) (turned_inside backwards (rows_of t table) k (omega arith)))

    pub tables_keeps : (backwards : Bool) (z : A) → P z → P (tables_walk f t x view take backwards z)
    unfolding tables_walk
    tables_keeps backwards = turn_keeps P _ 0 4 (λ i a l. table_keeps backwards (table_at i))

    pub sheet_keeps : (backwards : Bool) (z : A) → P z → P (sheet_walk f t x view take backwards z)
    unfolding sheet_walk start_walk
    sheet_keeps backwards z p = tables_keeps backwards _ (keep z z z _ p p at_start p)
