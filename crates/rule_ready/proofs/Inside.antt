-- What a row leads to lies in the sheet.
use Prim.Native.Nat.{ℕ, ◌+◌, ◌*◌, ◌≤◌, ◌<◌}
use mathlib.Core.Path.{◌≡◌, sym, ap, subst, ◌∙◌}
use mathlib.Core.List.{List}
use native.Mathlib.Omega.{arith}
use lib.ListN.{length}
use Rattle.graph_tables.specs.declared.Tables.{Tables}
use Rattle.graph_tables.specs.declared.Table.{Table}
use Rattle.graph_tables.specs.declared.Table.TheVariants.{Trailer, Methods, Nodes, Flow, Calls, Parents, Catches, Opening}
use Rattle.graph_tables.specs.Rows.{rows_of}
use Rattle.graph_tables.specs.Kinds.{throw_kind}
use Rattle.graph_tables.specs.Fields.{node_method, node_kind, node_number, call_node, call_method}
use Rattle.graph_refuse.proofs.Fit.{entry_fit, node_fit, flow_fit, call_fit, catch_fit}
use Rattle.answer.specs.declared.Answer.TheVariants.{Pass}
use Rattle.graph.specs.Judge.{judge_in}
use Rattle.graph.proofs.Passed.{judged}
use Rattle.graph.proofs.Whole.{Limits, limits}
use Rattle.graph.proofs.Rises.{rises}
use Rattle.graph_rows.specs.Rows.{Sorted, target_of}
use Rattle.sheet_layout.specs.declared.Shape.{Shape}
use Rattle.sheet_layout.specs.Layout.{stock_size, effect_size, method_at, exit_at, node_at, sheet_bytes, block_count, block_size, block_at}
use Rattle.sheet_layout.proofs.Blocks.{inside, block_method, method_size, block_exit, exit_size, block_node, node_size}
use Rattle.rule_ready.specs.Ready.{Ready}

module _ {f : List ℕ} {t : Tables} {x : Shape} {s : List ℕ} (r : Ready f t x s) where
  pub limit : Limits t
  limit = subst Limits (sym r.own) (limits f (subst (λ y. judge_in f y ≡ Pass) r.own r.passed))

  pub few_types : x.types ≤ 6
  few_types = omega (arith, limit.types, ap (λ y. y.types) r.shaped)

  pub sorted : Sorted f t
  sorted = rises f t (judged f t r.passed)

  as_many_nodes : x.nodes ≡ t.nodes
  as_many_nodes = ap (λ y. y.nodes) r.shaped

  as_many_methods : x.methods ≡ t.methods
  as_many_methods = ap (λ y. y.methods) r.shaped

  block_inside : (b w n : ℕ) → b < block_count x → block_at x b ≡ w → block_size x b ≡ n → 2 * (w + n) ≤ length s
  unfolding sheet_bytes
  block_inside b w n l p q = omega (arith, inside x b l, r.long)

  pub node_inside : (n : ℕ) → n < t.nodes → 2 * (node_at x n + effect_size x.types) ≤ length s
  node_inside n l = block_inside (10 * x.methods + n) (node_at x n) (effect_size x.types) (omega (arith, as_many_nodes)) (block_node x n) (node_size x n)

  pub method_inside : (m : ℕ) → m < t.methods → 2 * (method_at x m + stock_size x.types) ≤ length s
  method_inside m l =
      let h : m < x.methods = omega (arith, as_many_methods) in
      block_inside (10 * m) (method_at x m) (stock_size x.types) (omega arith) (block_method x m h) (method_size x m h)

  pub exit_inside : (m e : ℕ) → m < t.methods → e < 9 → 2 * (exit_at x m e + effect_size x.types) ≤ length s
  exit_inside m e l k =
      let h : m < x.methods = omega (arith, as_many_methods) in
      block_inside (10 * m + 1 + e) (exit_at x m e) (effect_size x.types) (omega arith) (block_exit x m h e k) (exit_size x m h e k)

  -- a file that passes leads to its own nodes and methods
  pub leads_inside : (table : Table) (j : ℕ) → j < rows_of t table → target_of f t table j < t.nodes
  leads_inside Trailer j l = limit.some_node
  leads_inside Methods j l = (entry_fit f t j ((judged f t r.passed).entries j l)).inside
  leads_inside Nodes j l = limit.some_node
  leads_inside Flow j l = (flow_fit f t j ((judged f t r.passed).flows j l)).to
  leads_inside Calls j l = limit.some_node
  leads_inside Parents j l = limit.some_node
  leads_inside Catches j l = (catch_fit f t j ((judged f t r.passed).catches j l)).to
  leads_inside Opening j l = limit.some_node

  pub method_of : (n : ℕ) → n < t.nodes → node_method f t n < t.methods
  method_of n l = (node_fit f t n ((judged f t r.passed).nodes n l)).method

  -- a throw's exception is one of the eight
  pub exception_of : (n : ℕ) → n < t.nodes → node_kind f t n ≡ throw_kind → node_number f t n < 8
  exception_of n l g = omega (arith, (node_fit f t n ((judged f t r.passed).nodes n l)).exception g)

  pub call_node_inside : (k : ℕ) → k < t.calls → call_node f t k < t.nodes
  call_node_inside k l = (call_fit f t k ((judged f t r.passed).calls k l)).node

  pub call_method_inside : (k : ℕ) → k < t.calls → call_method f t k < t.methods
  call_method_inside k l = (call_fit f t k ((judged f t r.passed).calls k l)).method

-- and is as ready for what is as long
pub still_ready : {f : List ℕ} {t : Tables} {x : Shape} {s q : List ℕ} → Ready f t x s → length q ≡ length s → Ready f t x q
still_ready r l = record { passed = r.passed; own = r.own; shaped = r.shaped; long = l ∙ r.long }
