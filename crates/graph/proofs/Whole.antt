-- The graph of a file that passes is well formed; a file that is too long is refused for its counts or its length.
use mathlib.Core.Path.{◌≡◌, refl}
use mathlib.Core.Bool.{Bool, true, false, cond}
use mathlib.Core.Logic.{◌⊎◌, inl, inr}
use mathlib.Core.List.{List}
use Prim.Native.Nat.{ℕ, ◌<◌, ◌≤◌}
use native.Mathlib.Omega.{arith}
use lib.ListN.{length}
use lib.Dec.{ltb, eqb, lit<}
use borrow.Author.Tests.{le-ltb, eqb-true}
use Rattle.words.specs.Lowest.{lowest}
use Rattle.words.proofs.Lowest.{NoneBelow, none_found}
use Rattle.answer.specs.declared.Answer.{Answer}
use Rattle.answer.specs.declared.Answer.TheVariants.{Pass, BadCount, BadLength}
use Rattle.answer.specs.Number.{number_of}
use Rattle.answer.proofs.Unpack.{zero_pass}
use Rattle.model.proofs.Formed.{Formed}
use Rattle.graph_tables.specs.declared.Tables.{Tables}
use Rattle.graph_tables.specs.Trailer.{trailer, tables_of}
use Rattle.graph_tables.specs.Fields.{call_method}
use Rattle.sheet_layout.specs.Layout.{Within}
use Rattle.graph.specs.Judge.{judge_in, judge_of}
use Rattle.graph.specs.Judgement.{shape_of, no_shape, shape_for, judged_of}
use Rattle.graph.specs.Graph.{graph_of}
use Rattle.graph.proofs.Passed.{judged}
use Rattle.graph_tables.proofs.Counts.{methods_are, nodes_are, flows_are, calls_are, catches_are, types_are, end_is}
use Rattle.graph_refuse.specs.Bad.{fewest, most, count_bad, length_bad}
use Rattle.graph_refuse.proofs.Fit.{count_fit, length_fit, entry_fit, node_fit, flow_fit, call_fit, catch_fit, call_named}

-- the limits of the counts
pub record Limits (t : Tables) : Type 0 where
  pub some_method : 0 < t.methods
  pub methods : t.methods ≤ 64
  pub some_node : 0 < t.nodes
  pub nodes : t.nodes ≤ 512
  pub flows : t.flows ≤ 1024
  pub calls : t.calls ≤ 512
  pub catches : t.catches ≤ 512
  pub some_type : 0 < t.types
  pub types : t.types ≤ 6

within_limits : (f : List ℕ) → NoneBelow (count_bad f) 6 → Limits (tables_of f)
within_limits f h =
    let c : (i : ℕ) → i < 6 → (fewest i ≤ trailer f i) × (trailer f i ≤ most i) = λ i l. count_fit f (tables_of f) i (h i l) in
    record {
      some_method = rw (methods_are f) (c 0 (lit< tt)).0;
      methods = rw (methods_are f) (c 0 (lit< tt)).1;
      some_node = rw (nodes_are f) (c 1 (lit< tt)).0;
      nodes = rw (nodes_are f) (c 1 (lit< tt)).1;
      flows = rw (flows_are f) (c 2 (lit< tt)).1;
      calls = rw (calls_are f) (c 3 (lit< tt)).1;
      catches = rw (catches_are f) (c 4 (lit< tt)).1;
      some_type = rw (types_are f) (c 5 (lit< tt)).0;
      types = rw (types_are f) (c 5 (lit< tt)).1;
    }

pub limits : (f : List ℕ) → judge_of f ≡ Pass → Limits (tables_of f)
limits f h = within_limits f (judged f (tables_of f) h).counts

-- so the sheet of a file that passes is within its limits,
pub within : (f : List ℕ) → judge_of f ≡ Pass → Within (shape_of (tables_of f))
within f h = let l = limits f h in record { few_methods = l.methods; few_nodes = l.nodes; few_types = l.types }

-- which is the shape that is found,
pub own_shape : (f : List ℕ) → judge_of f ≡ Pass → (judged_of f).shape ≡ shape_of (tables_of f)
unfolding shape_for
own_shape f h = rw h refl

-- and that of a file that is refused has nothing in it
pub shape_within : (f : List ℕ) → Within (judged_of f).shape
unfolding shape_for
shape_within f = go (eqb (number_of (judge_of f)) 0) refl
  where
    go : (b : Bool) → eqb (number_of (judge_of f)) 0 ≡ b → Within (cond b (shape_of (tables_of f)) no_shape)
    go true e = within f (zero_pass (judge_of f) (eqb-true _ 0 e))
    go false e = record { few_methods = omega arith; few_nodes = omega arith; few_types = omega arith }

pub formed : (f : List ℕ) → judge_of f ≡ Pass → Formed (graph_of f)
formed f h =
    let t = tables_of f in
    let j = judged f t h in
    record {
      first_method = (limits f h).some_method;
      node_inside = λ n l. (node_fit f t n (j.nodes n l)).method;
      entry_inside = λ m l. let r = entry_fit f t m (j.entries m l) in (r.inside, r.own);
      flow_inside = λ a b w. let r = flow_fit f t w.0 (j.flows w.0 w.1) in rw (← w.2, ← w.3) (r.from, r.to, r.one_method);
      flow_leaves = λ a b w. let r = flow_fit f t w.0 (j.flows w.0 w.1) in rw (← w.2) (λ u. r.no_return u.1, λ e u. r.no_throw u.0.1);
      catch_inside = λ a e b w. let r = catch_fit f t w.0 (j.catches w.0 w.1) in rw (← w.2, ← w.4) (r.from, r.to, r.one_method);
      calls_inside = λ c m w. let r = call_fit f t w.0 (j.calls w.0 w.1) in rw (← w.2, ← w.3) ((r.node, r.kind), r.method);
      call_has_row = λ c w. let r = call_named f t c (j.called c w.0) w.1 in (call_method f t r.0, (r.0, r.1, r.2, refl));
      some_repeats = λ c w. (node_fit f t c (j.nodes c w.0)).repeats w.1;
      eight_exceptions = λ n e w. rw (← w.1) (omega (arith, (node_fit f t n (j.nodes n w.0.0)).exception w.0.1));
    }

-- "The longest file has 12,440 + 14 = 12,454 bytes", with the parents 8 more, and with the lines 1,024 more.
longest : (f : List ℕ) → Limits (tables_of f) → length_bad f (tables_of f) ≡ false → length f ≤ 13486
longest f l h =
    let e = length_fit f (tables_of f) h in
    omega (arith, end_is f, l.methods, l.nodes, l.flows, l.calls, l.catches, l.types)

first_two : (a b : Bool) (i : ℕ) (next : Answer) → (a ≡ false → b ≡ false → ⊥)
    → (number_of (cond a (BadCount i) (cond b BadLength next)) ≡ 2) ⊎ (number_of (cond a (BadCount i) (cond b BadLength next)) ≡ 3)
first_two true b i next h = inl refl
first_two false true i next h = inr refl
first_two false false i next h = absurd (h refl refl)

-- a longer one is answered 2 or 3
pub too_long : (f : List ℕ) → 13486 < length f → (number_of (judge_of f) ≡ 2) ⊎ (number_of (judge_of f) ≡ 3)
unfolding judge_in
too_long f l =
    rw (le-ltb (length f) 14 (omega arith))
    (first_two (ltb (lowest (count_bad f) 6) 6) (length_bad f (tables_of f)) _ _
    (λ p q. omega (arith, longest f (within_limits f (none_found (count_bad f) 6 p)) q)))
