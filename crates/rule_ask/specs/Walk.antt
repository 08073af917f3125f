-- What the rows of a file ask of a sheet, written once: `view` is the sheet that is seen so far, and `take` what is done with each thing
-- asked. Check and work out are two uses of the one walk, on the bytes of a file f with the tables t and of a sheet with the shape x.
use Rattle.std.specs.Prelude.{ℕ, ◌+◌, Bool, cond, List, eqb}
use Rattle.words.specs.Turn.{in_turn}
use Rattle.effect.specs.declared.Stock.{Stock}
use Rattle.effect.specs.declared.Effect.{Effect}
use Rattle.effect.specs.Whole.{nothing_done, apply_of}
use Rattle.graph_tables.specs.declared.Tables.{Tables}
use Rattle.graph_tables.specs.declared.Table.{Table}
use Rattle.graph_tables.specs.declared.Table.TheVariants.{Trailer, Methods, Nodes, Flow, Calls, Parents, Catches, Opening}
use Rattle.graph_tables.specs.Rows.{rows_of}
use Rattle.graph_tables.specs.Kinds.{return_kind, throw_kind}
use Rattle.graph_tables.specs.Fields.{entry_of, node_method, node_kind, node_number, flow_from, flow_to}
use Rattle.graph_rows.specs.declared.Stretch.{Stretch}
use Rattle.graph_rows.specs.Rows.{flow_of, catches_of, uncaught_of, target_of, each_in}
use Rattle.graph_nodes.specs.Nodes.{opening_in}
use Rattle.sheet_layout.specs.declared.Shape.{Shape}
use Rattle.sheet_layout.specs.Layout.{method_at, exit_at, node_at}
use Rattle.sheet.specs.Read.{marked, stock_at}
use Rattle.sheet.specs.Under.{effect_under, stock_under}
use Rattle.rule_ask.specs.declared.Gives.{Gives}
use Rattle.rule_ask.specs.Gives.{table_at, turned, node_effect, goes_in, stepped_in, called_in, thrown_in}

-- By the rule r, of the block at the word w: mark 1, and at most this.
pub data Ask : Type 0 where
  of_effect : (r w : ℕ) → Effect → Ask
  of_stock : (r w : ℕ) → Stock → Ask

abbrev pub rule_of : Ask → ℕ
rule_of (of_effect r w e) = r
rule_of (of_stock r w h) = r

abbrev pub block_of : Ask → ℕ
block_of (of_effect r w e) = w
block_of (of_stock r w h) = w

-- the sheet s meets what is asked
abbrev pub meets : Shape → List ℕ → Ask → Bool
meets x s (of_effect r w e) = effect_under s x w e
meets x s (of_stock r w h) = stock_under s x w h

module _ (f : List ℕ) (t : Tables) (x : Shape) {A : Type 0} (view : A → List ℕ) (take : Ask → A → A) where
  -- each row of the stretch leads to a node
  unfoldable pub rows_walk : Table → ℕ → Effect → Stretch → A → A
  rows_walk table r e = each_in (λ j. take (of_effect r (node_at x (target_of f t table j)) e))

  -- the exception e comes to the node n with y: each catch row that applies to it, by the rule c, or, where none does, the exit of n's method, by the rule o
  unfoldable pub leaving_walk : ℕ → ℕ → ℕ → ℕ → Effect → A → A
  leaving_walk c o n e y z =
      cond (uncaught_of f t n e) (take (of_effect o (exit_at x (node_method f t n) (1 + e)) y) z) (rows_walk Catches c y (catches_of f t n e) z)

  -- 1. Method 0: the opening stock.
  unfoldable pub start_walk : A → A
  start_walk = take (of_stock 1 (method_at x 0) (opening_in f t))

  -- 2. Every entry node: nothing done.
  unfoldable pub entry_walk : ℕ → A → A
  entry_walk m = take (of_effect 2 (node_at x (entry_of f m)) nothing_done)

  -- 3. Flow row from a marked plain, grant or draw: its effect, then the step.
  unfoldable pub flow_walk : ℕ → A → A
  flow_walk k z =
      cond (goes_in f t x (view z) (flow_from f t k))
      (take (of_effect 3 (node_at x (flow_to f t k)) (stepped_in f t x (view z) (flow_from f t k))) z) z

  -- 5. Marked return: exit 0 of its method. 4 and 6. Marked throw: the catch rows that apply, or exit 1 + e.
  unfoldable pub end_walk : ℕ → Effect → A → A
  end_walk n y z =
      cond (eqb (node_kind f t n) return_kind) (take (of_effect 5 (exit_at x (node_method f t n) 0) y) z)
      (cond (eqb (node_kind f t n) throw_kind) (leaving_walk 4 6 n (node_number f t n) y z) z)

  unfoldable pub node_walk : ℕ → A → A
  node_walk n z = cond (marked (view z) (node_at x n)) (end_walk n (node_effect x (view z) n) z) z

  -- 7, of a marked call: each flow row of the call, where the method called returns
  unfoldable pub after_walk : Gives → A → A
  after_walk c z = cond c.returns (rows_walk Flow 7 c.rounds.whole (flow_of f t c.node) z) z

  -- 8, of a marked call: the stock of the method called, where the call's own method is called
  unfoldable pub into_walk : Gives → A → A
  into_walk c z =
      cond (marked (view z) (method_at x (node_method f t c.node)))
      (take (of_stock 8 (method_at x c.method) (apply_of c.rounds.earlier (stock_at (view z) x.types (method_at x (node_method f t c.node))))) z) z

  -- 9 and 10, of a marked call: where the exception e leaves the method called
  unfoldable pub thrown_walk : Gives → ℕ → A → A
  thrown_walk c e z = cond (marked (view z) (exit_at x c.method (1 + e))) (leaving_walk 9 10 c.node e (thrown_in x (view z) c e) z) z

  -- 7 to 10, of what a call row gave when its turn came
  unfoldable pub called_walk : Gives → A → A
  called_walk c z = cond c.marked (in_turn (thrown_walk c) 0 8 (into_walk c (after_walk c z))) z

  -- row k of a table; throws and calls ask through the catch rows that apply, and a row of the trailer, the parents, the catches or the opening
  -- stock asks nothing itself
  abbrev pub row_walk : Table → ℕ → A → A
  row_walk Trailer k z = z
  row_walk Methods k z = entry_walk k z
  row_walk Nodes k z = node_walk k z
  row_walk Flow k z = flow_walk k z
  row_walk Calls k z = called_walk (called_in f t x (view z) k) z
  row_walk Parents k z = z
  row_walk Catches k z = z
  row_walk Opening k z = z

  -- all rows of a table, forwards or backwards; the tables in their order; rule 1, and then the tables
  unfoldable pub table_walk : Bool → Table → A → A
  table_walk backwards table = in_turn (λ k. row_walk table (turned backwards (rows_of t table) k)) 0 (rows_of t table)

  unfoldable pub tables_walk : Bool → A → A
  tables_walk backwards = in_turn (λ i. table_walk backwards (table_at i)) 0 4

  unfoldable pub sheet_walk : Bool → A → A
  sheet_walk backwards z = tables_walk backwards (start_walk z)
