-- Each thing asked is taken. Q says that the sheet seen is still s, and P what is to be shown: each step keeps P, and leaves Q or brings P.
-- Then what is asked by s, and brings P where it is taken, has brought P at the end of the walk.
--   row_shows, sheet_shows
use Prim.Native.Nat.{ℕ, zero, suc, ◌+◌, ◌-◌, ◌≤◌, ◌<◌}
use mathlib.Core.Path.{◌≡◌, refl, sym, subst}
use mathlib.Core.Logic.{◌⊎◌, inl, inr, ⊎_elim}
use mathlib.Core.Bool.{Bool, true, false, cond}
use mathlib.Core.List.{List}
use native.Mathlib.Omega.{arith}
use native.Mathlib.Decide.{dec_lt}
use Rattle.words.specs.Turn.{in_turn}
use Rattle.effect.specs.declared.Effect.{Effect}
use Rattle.effect.specs.Whole.{apply_of}
use Rattle.graph_tables.specs.declared.Tables.{Tables}
use Rattle.graph_tables.specs.declared.Table.{Table}
use Rattle.graph_tables.specs.declared.Table.TheVariants.{Methods, Nodes, Flow, Calls, Catches}
use Rattle.graph_tables.specs.Rows.{rows_of}
use Rattle.graph_tables.specs.Fields.{node_method, node_number, flow_from, flow_to}
use Rattle.graph_rows.specs.declared.Stretch.{Stretch}
use Rattle.graph_rows.specs.Rows.{flow_of, catches_of, target_of}
use Rattle.graph_rows.proofs.Stretches.{In}
use Rattle.sheet_layout.specs.declared.Shape.{Shape}
use Rattle.sheet_layout.specs.Layout.{method_at, exit_at, node_at}
use Rattle.sheet.specs.Read.{marked, stock_at}
use Rattle.rule_ask.specs.declared.Gives.{Gives}
use Rattle.rule_ask.specs.Gives.{table_at, turned, node_effect, goes_in, stepped_in, called_in, thrown_in}
use Rattle.rule_ask.specs.Walk.{Ask, of_effect, of_stock, rows_walk, leaving_walk, start_walk, entry_walk, flow_walk, end_walk, node_walk, after_walk, into_walk, thrown_walk, called_walk, row_walk, table_walk, tables_walk, sheet_walk}
use Rattle.rule_ask.proofs.Turned.{turned_inside, turned_twice}
use Rattle.rule_ask.proofs.Asks.{LeavingAsks, to_handler, to_exit, CallAsks, after_call, into_call, from_call, RowAsks, at_entry, along_flow, at_return, at_throw, of_call, Asks, at_start, of_row}
use Rattle.rule_ask.proofs.Keeps.{turn_keeps, after_keeps, into_keeps, thrown_keeps, row_keeps, table_keeps, tables_keeps}

module _ {A : Type 0} (P R : A → Type 0) where
  -- one of the steps brings P
  turn_shows : (act : ℕ → A → A) (a n : ℕ) → ((j : ℕ) → a ≤ j → j < a + n → (z : A) → P z → P (act j z)) → ((j : ℕ) → a ≤ j → j < a + n → (z : A) → R z → R (act j z))
      → (j : ℕ) → a ≤ j → j < a + n → ((z : A) → R z → P (act j z)) → (z : A) → R z → P (in_turn act a n z)
  unfolding in_turn
  turn_shows act a zero p r j l m h z q = absurd (omega arith)
  turn_shows act a (suc n) p r j l m h z q = elim (dec_lt j (a + n)) [
    | yes u ↦ p (a + n) (omega arith) (omega arith) _ (turn_shows act a n (λ i v w. p i v (omega arith)) (λ i v w. r i v (omega arith)) j l u h z q)
    | no u ↦
        let e : a + n ≡ j = omega arith in
        subst (λ i. P (act i (in_turn act a n z))) (sym e) (h _ (turn_keeps R act a n (λ i v w. r i v (omega arith)) z q))
  ]

  on_true : (b : Bool) (y z : A) → b ≡ true → P y → P (cond b y z)
  on_true b y z e p = rw e p

  on_false : (b : Bool) (y z : A) → b ≡ false → P z → P (cond b y z)
  on_false b y z e p = rw e p

-- each table that asks has its turn
turn_of : (table : Table) → (table ≡ Methods) ⊎ ((table ≡ Flow) ⊎ ((table ≡ Nodes) ⊎ (table ≡ Calls))) → (i : ℕ) × (i < 4) × (table_at i ≡ table)
turn_of table (inl e) = (0, omega arith, sym e)
turn_of table (inr (inl e)) = (1, omega arith, sym e)
turn_of table (inr (inr (inl e))) = (2, omega arith, sym e)
turn_of table (inr (inr (inr e))) = (3, omega arith, sym e)

module _ (f : List ℕ) (t : Tables) (x : Shape) {A : Type 0} (view : A → List ℕ) (take : Ask → A → A) (s : List ℕ) (P Q : A → Type 0)
    (see : (z : A) → Q z → view z ≡ s) (stay : (a : Ask) (z : A) → P z → P (take a z)) (step : (a : Ask) (z : A) → Q z → P (take a z) ⊎ Q (take a z)) where
  -- P, or the sheet is still s: any step keeps it
  abbrev R : A → Type 0
  R z = P z ⊎ Q z

  any : (a : Ask) (z : A) → R z → R (take a z)
  any a z r = ⊎_elim (λ p. inl (stay a z p)) (step a z) r

  -- to take what is asked brings P
  abbrev pub Hits : Ask → Type 0
  Hits a = (z : A) → Q z → P (take a z)

  taken : {a : Ask} → Hits a → (z : A) → R z → P (take a z)
  taken {a} hit z r = ⊎_elim (stay a z) (hit z) r

  -- a part of the walk that reads the sheet: where P holds it keeps it, and where the sheet is s it is what s makes of it
  seen : (part : List ℕ → A) (z : A) → (P z → P (part (view z))) → (Q z → P (part s)) → R z → P (part (view z))
  seen part z p q (inl h) = p h
  seen part z p q (inr h) = subst (λ v. P (part v)) (sym (see z h)) (q h)

  rows_shows : (table : Table) (r : ℕ) (e : Effect) (w : Stretch) (j : ℕ) → In w j → Hits (of_effect r (node_at x (target_of f t table j)) e)
      → (z : A) → R z → P (rows_walk f t x view take table r e w z)
  unfolding rows_walk
  rows_shows table r e w j i hit =
      turn_shows P R (λ j. take (of_effect r (node_at x (target_of f t table j)) e)) w.from (w.to - w.from) (λ k l m. stay _) (λ k l m. any _) j i.0 (omega (arith, i.0, i.1)) (taken hit)

  leaving_shows : (c o n e : ℕ) (y : Effect) {a : Ask} → LeavingAsks f t x c o n e y a → Hits a → (z : A) → R z → P (leaving_walk f t x view take c o n e y z)
  unfolding leaving_walk
  leaving_shows c o n e y (to_handler j u i) hit z r = on_false P R _ _ _ u (rows_shows Catches c y (catches_of f t n e) j i hit z r)
  leaving_shows c o n e y (to_exit u) hit z r = on_true P R _ _ _ u (taken hit z r)

  -- what a call row gave
  module _ (c : Gives) where
    after_P : (z : A) → P z → P (after_walk f t x view take c z)
    after_P = after_keeps f t x view take P c (λ y q a h. stay a)

    into_P : (z : A) → P z → P (into_walk f t x view take c z)
    into_P = into_keeps f t x view take P c (λ y q a h. stay a)

    thrown_P : (e : ℕ) → e < 8 → (z : A) → P z → P (thrown_walk f t x view take c e z)
    thrown_P = thrown_keeps f t x view take P c (λ y q a h. stay a)

    after_R : (z : A) → R z → R (after_walk f t x view take c z)
    after_R = after_keeps f t x view take R c (λ y q a h. any a)

    into_R : (z : A) → R z → R (into_walk f t x view take c z)
    into_R = into_keeps f t x view take R c (λ y q a h. any a)

    thrown_R : (e : ℕ) → e < 8 → (z : A) → R z → R (thrown_walk f t x view take c e z)
    thrown_R = thrown_keeps f t x view take R c (λ y q a h. any a)

    all_P : (z : A) → P z → P (in_turn (thrown_walk f t x view take c) 0 8 z)
    all_P = turn_keeps P (thrown_walk f t x view take c) 0 8 (λ e l m. thrown_P e (omega arith))

    call_shows : {a : Ask} → CallAsks f t x c s a → Hits a → (z : A) → R z → P (in_turn (thrown_walk f t x view take c) 0 8 (into_walk f t x view take c (after_walk f t x view take c z)))
    unfolding after_walk into_walk thrown_walk
    call_shows (after_call j q i) hit z r = all_P _ (into_P _ (on_true P R _ _ _ q (rows_shows Flow 7 c.rounds.whole (flow_of f t c.node) j i hit z r)))
    call_shows (into_call q) hit z r = all_P _ (into (after_walk f t x view take c z) (after_R z r))
      where
        own : ℕ
        own = method_at x (node_method f t c.node)

        into : (y : A) → R y → P (into_walk f t x view take c y)
        into y = seen (λ v. cond (marked v own) (take (of_stock 8 (method_at x c.method) (apply_of c.rounds.earlier (stock_at v x.types own))) y) y) y (into_P y) (λ h. on_true P R _ _ _ q (hit y h))
    call_shows (from_call e a small q h) hit z r =
        turn_shows P R (thrown_walk f t x view take c) 0 8 (λ e l m. thrown_P e (omega arith)) (λ e l m. thrown_R e (omega arith)) e (omega arith) (omega arith) thrown _ (into_R _ (after_R z r))
      where
        thrown : (y : A) → R y → P (thrown_walk f t x view take c e y)
        thrown y = seen (λ v. cond (marked v (exit_at x c.method (1 + e))) (leaving_walk f t x view take 9 10 c.node e (thrown_in x v c e) y) y) y (thrown_P e small y)
            (λ g. on_true P R _ _ _ q (leaving_shows 9 10 c.node e (thrown_in x s c e) h hit y (inr g)))

  keep_P : (w y z : A) (a : Ask) → P w → P y → Asks f t x (view w) (view y) a → P z → P (take a z)
  keep_P w y z a pw py h = stay a z

  keep_R : (w y z : A) (a : Ask) → R w → R y → Asks f t x (view w) (view y) a → R z → R (take a z)
  keep_R w y z a pw py h = any a z

  row_P : (table : Table) (k : ℕ) → k < rows_of t table → (z : A) → P z → P (row_walk f t x view take table k z)
  row_P = row_keeps f t x view take P keep_P

  pub row_shows : {table : Table} {k : ℕ} {a : Ask} → k < rows_of t table → RowAsks f t x s s table k a → Hits a → (z : A) → R z → P (row_walk f t x view take table k z)
  unfolding entry_walk flow_walk node_walk end_walk called_walk
  row_shows l (at_entry m) hit z r = taken hit z r
  row_shows l (along_flow k q) hit z r =
      seen (λ v. cond (goes_in f t x v (flow_from f t k)) (take (of_effect 3 (node_at x (flow_to f t k)) (stepped_in f t x v (flow_from f t k))) z) z) z (row_P Flow k l z) (λ h. on_true P R _ _ _ q (hit z h)) r
  row_shows l (at_return n m q) hit z r =
      seen (λ v. cond (marked v (node_at x n)) (end_walk f t x view take n (node_effect x v n) z) z) z (row_P Nodes n l z) (λ h. on_true P R _ _ _ m (on_true P R _ _ _ q (hit z h))) r
  row_shows l (at_throw n a m q g h) hit z r =
      seen (λ v. cond (marked v (node_at x n)) (end_walk f t x view take n (node_effect x v n) z) z) z (row_P Nodes n l z)
      (λ w. on_true P R _ _ _ m (on_false P R _ _ _ q (on_true P R _ _ _ g (leaving_shows 4 6 n (node_number f t n) (node_effect x s n) h hit z (inr w))))) r
  row_shows l (of_call k a q h) hit z r =
      seen (λ v. called_walk f t x view take (called_in f t x v k) z) z (row_P Calls k l z) (λ w. on_true P R _ _ _ q (call_shows (called_in f t x s k) h hit z (inr w))) r

  -- a table whose rows ask something is one of the four
  of_four : {table : Table} {k : ℕ} {a : Ask} → RowAsks f t x s s table k a → (table ≡ Methods) ⊎ ((table ≡ Flow) ⊎ ((table ≡ Nodes) ⊎ (table ≡ Calls)))
  of_four (at_entry m) = inl refl
  of_four (along_flow k q) = inr (inl refl)
  of_four (at_return n m q) = inr (inr (inl refl))
  of_four (at_throw n a m q g h) = inr (inr (inl refl))
  of_four (of_call k a q h) = inr (inr (inr refl))

  module _ (backwards : Bool) where
    table_shows : (table : Table) (k : ℕ) {a : Ask} → k < rows_of t table → RowAsks f t x s s table k a → Hits a → (z : A) → R z → P (table_walk f t x view take backwards table z)
    unfolding table_walk
    table_shows table k l h hit =
        let n = rows_of t table in
        turn_shows P R (λ j. row_walk f t x view take table (turned backwards n j)) 0 n
        (λ j u v. row_P table (turned backwards n j) (turned_inside backwards n j (omega arith)))
        (λ j u v. row_keeps f t x view take R keep_R table (turned backwards n j) (turned_inside backwards n j (omega arith)))
        (turned backwards n k) (omega arith) (omega (arith, turned_inside backwards n k l))
        (λ z r. subst (λ j. P (row_walk f t x view take table j z)) (sym (turned_twice backwards n k l)) (row_shows l h hit z r))

    pub sheet_shows : {a : Ask} → Asks f t x s s a → Hits a → (z : A) → R z → P (sheet_walk f t x view take backwards z)
    unfolding sheet_walk start_walk tables_walk
    sheet_shows at_start hit z r = tables_keeps f t x view take P keep_P backwards _ (taken hit z r)
    sheet_shows (of_row table k a l h) hit z r =
        let i = turn_of table (of_four h) in
        turn_shows P R (λ j. table_walk f t x view take backwards (table_at j)) 0 4
        (λ j u v. table_keeps f t x view take P keep_P backwards (table_at j)) (λ j u v. table_keeps f t x view take R keep_R backwards (table_at j))
        i.0 (omega arith) (omega (arith, i.1))
        (λ y q. subst (λ v. P (table_walk f t x view take backwards v y)) (sym i.2) (table_shows table k l h hit y q)) _ (any _ z r)
