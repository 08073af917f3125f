-- The judge in two stages: methods to catches first, and only where these refuse nothing, calls without a row and the opening stock.
use mathlib.Core.Path.{◌≡◌, refl, sym, ap, ◌∙◌}
use mathlib.Core.Bool.{Bool, true, false, cond, not, true≢false}
use mathlib.Core.Logic.{◌⊎◌, inl, inr}
use mathlib.Core.List.{List}
use Prim.Native.Nat.{ℕ, ◌<◌, ◌≤◌}
use native.Mathlib.Omega.{arith}
use lib.Dec.{ltb, eqb, lit<}
use borrow.Author.Tests.{leb-true, leb-false, ltb-true, eqb-true, eq-eqb}
use Rattle.words.specs.Lowest.{lowest}
use Rattle.words.proofs.Lowest.{is_lowest, none_found}
use Rattle.answer.specs.declared.Answer.{Answer}
use Rattle.answer.specs.declared.Answer.TheVariants.{Pass, BadEntry, BadFlow, BadCall, BadParent, BadCatch, BadOpening}
use Rattle.answer.specs.Number.{number_of}
use Rattle.answer.proofs.Unpack.{zero_pass}
use Rattle.graph_tables.specs.declared.Tables.{Tables}
use Rattle.graph_tables.specs.declared.Table.TheVariants.{Calls}
use Rattle.graph_tables.specs.Fields.{call_node}
use Rattle.graph_refuse.specs.Bad.{named, uncalled, entry_bad, node_bad, flow_bad, call_bad, parent_bad, catch_bad, opening_bad}
use Rattle.graph_rows.specs.Rows.{Rises, Sorted, calls_of, no_rows}
use Rattle.graph_rows.proofs.Stretches.{in_stretch, of_stretch}
use Rattle.graph_places.specs.Places.{bad_node_at, no_call_row_at}
use Rattle.graph.specs.Judge.{judge_rows}
use Rattle.graph_scan.specs.Scan.{refused, judge_tables}
use Rattle.graph.proofs.Passed.{rows_pass}
use Rattle.graph.proofs.Rises.{sorted}

-- where the call rows are sorted, none names the node exactly if its stretch is empty
pub no_rows_named : (f : List ℕ) (t : Tables) → Rises f t Calls → (n : ℕ) → no_rows (calls_of f t n) ≡ not (named f t n)
no_rows_named f t h n = go (no_rows (calls_of f t n)) refl (named f t n) refl
  where
    names : ℕ → Bool
    names k = eqb (call_node f t k) n

    go : (a : Bool) → no_rows (calls_of f t n) ≡ a → (b : Bool) → named f t n ≡ b → a ≡ not b
    go true p true q =
        let k = lowest names t.calls in
        let l : k < t.calls = ltb-true _ _ q in
        let i = in_stretch f t Calls h n k l (eqb-true _ _ ((is_lowest names t.calls).found l)) in
        let w : (calls_of f t n).to ≤ (calls_of f t n).from = leb-true _ _ p in
        absurd (omega (arith, i.0, i.1))
    go true p false q = refl
    go false p true q = refl
    go false p false q =
        let k = (calls_of f t n).from in
        let r = of_stretch f t Calls h n k (omega arith, leb-false _ _ p) in
        absurd (true≢false (sym (eq-eqb _ _ r.1) ∙ none_found names t.calls q k r.0))

-- a stage either refuses, whatever comes next, or leaves the answer to what comes next
abbrev Stage : (Answer → Answer) → Type 0
Stage first = ((0 < number_of (first Pass)) × ((next : Answer) → first next ≡ first Pass)) ⊎ ((next : Answer) → first next ≡ next)

table_stage : (bad : ℕ → Bool) (n : ℕ) (answer : ℕ → Answer) (later : Answer → Answer) → ((k : ℕ) → 0 < number_of (answer k)) → Stage later → Stage (λ next. refused bad n answer (later next))
table_stage bad n answer later l s = go (ltb (lowest bad n) n)
  where
    go : (b : Bool) → Stage (λ next. cond b (answer (lowest bad n)) (later next))
    go true = inl (l _, λ next. refl)
    go false = s

module _ (f : List ℕ) (t : Tables) where
  stage : Stage (judge_tables f t)
  unfolding judge_tables
  stage =
      table_stage (entry_bad f t) t.methods BadEntry _ (λ k. lit< tt)
      (table_stage (node_bad f t) t.nodes (bad_node_at f t) _ (λ k. lit< tt)
      (table_stage (flow_bad f t) t.flows BadFlow _ (λ k. lit< tt)
      (table_stage (call_bad f t) t.calls BadCall _ (λ k. lit< tt)
      (table_stage (parent_bad f t) 8 BadParent _ (λ k. lit< tt)
      (table_stage (catch_bad f t) t.catches BadCatch (λ next. next) (λ k. lit< tt)
      (inr (λ next. refl)))))))

  -- what comes after the first stage
  abbrev later : Answer
  later = refused (uncalled f t) t.nodes (no_call_row_at f t) (refused (opening_bad f t) t.types BadOpening Pass)

  -- where the first stage refuses, that is the answer,
  pub refused_first : {a : Answer} → a ≡ judge_tables f t Pass → (number_of a ≡ 0 → ⊥) → a ≡ judge_rows f t
  unfolding judge_rows judge_tables
  refused_first {a} e z = go stage
    where
      go : Stage (judge_tables f t) → a ≡ judge_rows f t
      go (inl s) = e ∙ sym (s.1 later)
      go (inr s) = absurd (z (ap number_of (e ∙ s Pass)))

  -- and where it does not, the answer is what comes after it,
  pub left_to_later : {a : Answer} → a ≡ judge_tables f t Pass → number_of a ≡ 0 → judge_rows f t ≡ later
  unfolding judge_rows judge_tables
  left_to_later {a} e z = go stage
    where
      go : Stage (judge_tables f t) → judge_rows f t ≡ later
      go (inl s) = absurd (omega (arith, s.0, ap number_of e))
      go (inr s) = s later

  -- for which the tables are sorted
  pub first_sorted : {a : Answer} → a ≡ judge_tables f t Pass → number_of a ≡ 0 → Sorted f t
  unfolding judge_tables
  first_sorted {a} e z =
      let w4 = rows_pass _ _ BadEntry _ (sym e ∙ zero_pass a z) (λ k. lit< tt) in
      let w5 = rows_pass _ _ (bad_node_at f t) _ w4.1 (λ k. lit< tt) in
      let w6 = rows_pass _ _ BadFlow _ w5.1 (λ k. lit< tt) in
      let w7 = rows_pass _ _ BadCall _ w6.1 (λ k. lit< tt) in
      let w15 = rows_pass _ _ BadParent _ w7.1 (λ k. lit< tt) in
      let w8 = rows_pass _ _ BadCatch _ w15.1 (λ k. lit< tt) in
      sorted f t w6.0 w7.0 w8.0
