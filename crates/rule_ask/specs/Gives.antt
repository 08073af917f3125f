-- What stands where a row comes from, on the bytes of a file f with the tables t and of a sheet s with the shape x.
use Rattle.std.specs.Prelude.{ℕ, zero, suc, ◌+◌, ◌-◌, Bool, cond, ◌&&◌, List, leb}
use Rattle.effect.specs.declared.Effect.{Effect}
use Rattle.effect.specs.Whole.{then_of}
use Rattle.model.specs.Stocks.{step_of}
use Rattle.rule_rounds.specs.Rounds.{rounds_of}
use Rattle.graph_tables.specs.declared.Tables.{Tables}
use Rattle.graph_tables.specs.declared.Table.{Table}
use Rattle.graph_tables.specs.declared.Table.TheVariants.{Methods, Nodes, Flow, Calls}
use Rattle.graph_tables.specs.Kinds.{draw_kind}
use Rattle.graph_tables.specs.Fields.{node_kind, node_count, call_node, call_method}
use Rattle.graph_nodes.specs.Nodes.{does_in}
use Rattle.sheet_layout.specs.declared.Shape.{Shape}
use Rattle.sheet_layout.specs.Layout.{exit_at, node_at}
use Rattle.sheet.specs.Read.{marked, effect_at}
use Rattle.rule_ask.specs.declared.Gives.{Gives}

-- the tables whose rows ask something, in the order of the rules: 2, 3, 4 to 6, 7 to 10
abbrev pub table_at : ℕ → Table
table_at zero = Methods
table_at (suc zero) = Flow
table_at (suc (suc zero)) = Nodes
table_at (suc (suc (suc i))) = Calls

-- which of n rows comes at step k, forwards or backwards
abbrev pub turned : Bool → ℕ → ℕ → ℕ
turned backwards n k = cond backwards (n - 1 - k) k

-- the effect of node n, and of exit e of method m
abbrev pub node_effect : Shape → List ℕ → ℕ → Effect
node_effect x s n = effect_at s x.types (node_at x n)

abbrev pub exit_effect : Shape → List ℕ → ℕ → ℕ → Effect
exit_effect x s m e = effect_at s x.types (exit_at x m e)

-- 3: a marked plain, grant or draw; its effect, then the step
unfoldable pub goes_in : List ℕ → Tables → Shape → List ℕ → ℕ → Bool
goes_in f t x s n = leb (node_kind f t n) draw_kind && marked s (node_at x n)

unfoldable pub stepped_in : List ℕ → Tables → Shape → List ℕ → ℕ → Effect
stepped_in f t x s n = then_of (node_effect x s n) (step_of (does_in f t n))

-- what call row k gives to rules 7 to 10
unfoldable pub called_in : List ℕ → Tables → Shape → List ℕ → ℕ → Gives
called_in f t x s k =
    record {
      node = call_node f t k;
      method = call_method f t k;
      marked = marked s (node_at x (call_node f t k));
      returns = marked s (exit_at x (call_method f t k) 0);
      rounds =
          rounds_of (node_effect x s (call_node f t k)) (marked s (node_at x (call_node f t k)) && marked s (exit_at x (call_method f t k) 0))
          (exit_effect x s (call_method f t k) 0) (node_count f t (call_node f t k));
    }

-- 9 and 10: .. exit 0 taken j times, then exit 1 + e
unfoldable pub thrown_in : Shape → List ℕ → Gives → ℕ → Effect
thrown_in x s c e = then_of c.rounds.earlier (exit_effect x s c.method (1 + e))
