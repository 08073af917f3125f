-- What the rows ask, as a relation: each thing that a walk takes, with the conditions under which it takes it. A call row takes its rounds of
-- the sheet r when its turn comes, and finds the sheet s when it asks; of the other rows r and s are one.
use Prim.Native.Nat.{ℕ, ◌+◌, ◌<◌}
use mathlib.Core.Path.{◌≡◌}
use mathlib.Core.Bool.{true, false}
use mathlib.Core.List.{List}
use lib.Dec.{eqb}
use Rattle.effect.specs.declared.Effect.{Effect}
use Rattle.effect.specs.Whole.{nothing_done, apply_of}
use Rattle.graph_tables.specs.declared.Tables.{Tables}
use Rattle.graph_tables.specs.declared.Table.{Table}
use Rattle.graph_tables.specs.declared.Table.TheVariants.{Methods, Nodes, Flow, Calls, Catches}
use Rattle.graph_tables.specs.Rows.{rows_of}
use Rattle.graph_tables.specs.Kinds.{return_kind, throw_kind}
use Rattle.graph_tables.specs.Fields.{entry_of, node_method, node_kind, node_number, flow_from, flow_to}
use Rattle.graph_rows.specs.Rows.{flow_of, catches_of, uncaught_of, target_of}
use Rattle.graph_rows.proofs.Stretches.{In}
use Rattle.graph_nodes.specs.Nodes.{opening_in}
use Rattle.sheet_layout.specs.declared.Shape.{Shape}
use Rattle.sheet_layout.specs.Layout.{method_at, exit_at, node_at}
use Rattle.sheet.specs.Read.{marked, stock_at}
use Rattle.rule_ask.specs.declared.Gives.{Gives}
use Rattle.rule_ask.specs.Gives.{node_effect, goes_in, stepped_in, called_in, thrown_in}
use Rattle.rule_ask.specs.Walk.{Ask, of_effect, of_stock}

module _ (f : List ℕ) (t : Tables) (x : Shape) where
  -- the exception e comes to the node n with y
  pub data LeavingAsks (c o n e : ℕ) (y : Effect) : Ask → Type 0 where
    to_handler : (j : ℕ) → uncaught_of f t n e ≡ false → In (catches_of f t n e) j → LeavingAsks c o n e y (of_effect c (node_at x (target_of f t Catches j)) y)
    to_exit : uncaught_of f t n e ≡ true → LeavingAsks c o n e y (of_effect o (exit_at x (node_method f t n) (1 + e)) y)

  -- a marked call, of what it gave
  pub data CallAsks (c : Gives) (s : List ℕ) : Ask → Type 0 where
    after_call : (j : ℕ) → c.returns ≡ true → In (flow_of f t c.node) j → CallAsks c s (of_effect 7 (node_at x (target_of f t Flow j)) c.rounds.whole)
    into_call : marked s (method_at x (node_method f t c.node)) ≡ true
        → CallAsks c s (of_stock 8 (method_at x c.method) (apply_of c.rounds.earlier (stock_at s x.types (method_at x (node_method f t c.node)))))
    from_call : (e : ℕ) (a : Ask) → e < 8 → marked s (exit_at x c.method (1 + e)) ≡ true → LeavingAsks 9 10 c.node e (thrown_in x s c e) a → CallAsks c s a

  -- row k of a table
  pub data RowAsks (r s : List ℕ) : Table → ℕ → Ask → Type 0 where
    at_entry : (m : ℕ) → RowAsks r s Methods m (of_effect 2 (node_at x (entry_of f m)) nothing_done)
    along_flow : (k : ℕ) → goes_in f t x s (flow_from f t k) ≡ true → RowAsks r s Flow k (of_effect 3 (node_at x (flow_to f t k)) (stepped_in f t x s (flow_from f t k)))
    at_return : (n : ℕ) → marked s (node_at x n) ≡ true → eqb (node_kind f t n) return_kind ≡ true
        → RowAsks r s Nodes n (of_effect 5 (exit_at x (node_method f t n) 0) (node_effect x s n))
    at_throw : (n : ℕ) (a : Ask) → marked s (node_at x n) ≡ true → eqb (node_kind f t n) return_kind ≡ false → eqb (node_kind f t n) throw_kind ≡ true
        → LeavingAsks 4 6 n (node_number f t n) (node_effect x s n) a → RowAsks r s Nodes n a
    of_call : (k : ℕ) (a : Ask) → (called_in f t x r k).marked ≡ true → CallAsks (called_in f t x r k) s a → RowAsks r s Calls k a

  -- the whole file
  pub data Asks (r s : List ℕ) : Ask → Type 0 where
    at_start : Asks r s (of_stock 1 (method_at x 0) (opening_in f t))
    of_row : (table : Table) (k : ℕ) (a : Ask) → k < rows_of t table → RowAsks r s table k a → Asks r s a
