-- A file that passes: no test applies to it.
use mathlib.Core.Path.{◌≡◌, refl, ap}
use mathlib.Core.Bool.{Bool, true, false, cond}
use mathlib.Core.Logic.{◌⊎◌, inl, inr}
use mathlib.Core.List.{List}
use Prim.Native.Nat.{ℕ, ◌<◌, ◌≤◌}
use native.Mathlib.Omega.{arith}
use lib.ListN.{length}
use lib.Dec.{ltb, lit<}
use borrow.Author.Tests.{ltb-false}
use Rattle.words.specs.Lowest.{lowest}
use Rattle.words.proofs.Lowest.{NoneBelow, none_found}
use Rattle.answer.specs.declared.Answer.{Answer}
use Rattle.answer.specs.declared.Answer.TheVariants.{Pass, TooShort, BadCount, BadLength, BadEntry, BadFlow, BadCall, BadParent, BadCatch, BadOpening}
use Rattle.answer.specs.Number.{number_of}
use Rattle.graph_tables.specs.declared.Tables.{Tables}
use Rattle.graph_refuse.specs.Bad.{count_bad, length_bad, entry_bad, node_bad, flow_bad, call_bad, parent_bad, catch_bad, uncalled, opening_bad}
use Rattle.graph_places.specs.Places.{bad_node_at, no_call_row_at}
use Rattle.graph_scan.specs.Scan.{refused}
use Rattle.graph.specs.Judge.{judge_rows, judge_in}

-- a refusal does not pass, so what comes next does
cond_pass : (b : Bool) (refusal next : Answer) → cond b refusal next ≡ Pass → 0 < number_of refusal → (b ≡ false) × (next ≡ Pass)
cond_pass true refusal next h l = let z : number_of refusal ≡ 0 = ap number_of h in absurd (omega arith)
cond_pass false refusal next h l = (refl, h)

pub rows_pass : (bad : ℕ → Bool) (n : ℕ) (answer : ℕ → Answer) (next : Answer) → refused bad n answer next ≡ Pass → ((k : ℕ) → 0 < number_of (answer k)) → NoneBelow bad n × (next ≡ Pass)
rows_pass bad n answer next h l =
    let w = cond_pass _ _ next h (l _) in
    (none_found bad n w.0, w.1)

-- what holds of a file whose trailer says t and that passes
pub record Judged (f : List ℕ) (t : Tables) : Type 0 where
  pub long : 14 ≤ length f
  pub counts : NoneBelow (count_bad f) 6
  pub whole : length_bad f t ≡ false
  pub entries : NoneBelow (entry_bad f t) t.methods
  pub nodes : NoneBelow (node_bad f t) t.nodes
  pub flows : NoneBelow (flow_bad f t) t.flows
  pub calls : NoneBelow (call_bad f t) t.calls
  pub parents : NoneBelow (parent_bad f t) 8
  pub catches : NoneBelow (catch_bad f t) t.catches
  pub called : NoneBelow (uncalled f t) t.nodes
  pub opening : NoneBelow (opening_bad f t) t.types

pub judged : (f : List ℕ) (t : Tables) → judge_in f t ≡ Pass → Judged f t
unfolding judge_in judge_rows
judged f t h =
    let w1 = cond_pass _ TooShort _ h (lit< tt) in
    let w2 = rows_pass _ _ BadCount _ w1.1 (λ k. lit< tt) in
    let w3 = cond_pass _ BadLength _ w2.1 (lit< tt) in
    let w4 = rows_pass _ _ BadEntry _ w3.1 (λ k. lit< tt) in
    let w5 = rows_pass _ _ (bad_node_at f t) _ w4.1 (λ k. lit< tt) in
    let w6 = rows_pass _ _ BadFlow _ w5.1 (λ k. lit< tt) in
    let w7 = rows_pass _ _ BadCall _ w6.1 (λ k. lit< tt) in
    let w15 = rows_pass _ _ BadParent _ w7.1 (λ k. lit< tt) in
    let w8 = rows_pass _ _ BadCatch _ w15.1 (λ k. lit< tt) in
    let w17 = rows_pass _ _ (no_call_row_at f t) _ w8.1 (λ k. lit< tt) in
    let w9 = rows_pass _ _ BadOpening _ w17.1 (λ k. lit< tt) in
    record { long = ltb-false (length f) 14 w1.0; counts = w2.0; whole = w3.0; entries = w4.0; nodes = w5.0; flows = w6.0; calls = w7.0; parents = w15.0; catches = w8.0; called = w17.0; opening = w9.0 }

-- the answer is one that the judge gives: 1 to 9, 15, 17, or 0
abbrev pub OfFile : Answer → Type 0
OfFile a = (number_of a ≤ 9) ⊎ ((number_of a ≡ 15) ⊎ (number_of a ≡ 17))

few : (b : Bool) (a next : Answer) → OfFile a → OfFile next → OfFile (cond b a next)
few true a next p q = p
few false a next p q = q

rows_few : (bad : ℕ → Bool) (n : ℕ) (answer : ℕ → Answer) (next : Answer) → ((k : ℕ) → OfFile (answer k)) → OfFile next → OfFile (refused bad n answer next)
rows_few bad n answer next l q = few (ltb (lowest bad n) n) (answer (lowest bad n)) next (l (lowest bad n)) q

pub judge_few : (f : List ℕ) (t : Tables) → OfFile (judge_in f t)
unfolding judge_in judge_rows
judge_few f t =
    let a9 = refused (opening_bad f t) t.types BadOpening Pass in
    let a17 = refused (uncalled f t) t.nodes (no_call_row_at f t) a9 in
    let a8 = refused (catch_bad f t) t.catches BadCatch a17 in
    let a15 = refused (parent_bad f t) 8 BadParent a8 in
    let a7 = refused (call_bad f t) t.calls BadCall a15 in
    let a6 = refused (flow_bad f t) t.flows BadFlow a7 in
    let a5 = refused (node_bad f t) t.nodes (bad_node_at f t) a6 in
    let a4 = refused (entry_bad f t) t.methods BadEntry a5 in
    let a3 = cond (length_bad f t) BadLength a4 in
    let w9 = rows_few (opening_bad f t) t.types BadOpening Pass (λ k. inl (omega arith)) (inl (omega arith)) in
    let w17 = rows_few (uncalled f t) t.nodes (no_call_row_at f t) a9 (λ k. inr (inr refl)) w9 in
    let w8 = rows_few (catch_bad f t) t.catches BadCatch a17 (λ k. inl (omega arith)) w17 in
    let w15 = rows_few (parent_bad f t) 8 BadParent a8 (λ k. inr (inl refl)) w8 in
    let w7 = rows_few (call_bad f t) t.calls BadCall a15 (λ k. inl (omega arith)) w15 in
    let w6 = rows_few (flow_bad f t) t.flows BadFlow a7 (λ k. inl (omega arith)) w7 in
    let w5 = rows_few (node_bad f t) t.nodes (bad_node_at f t) a6 (λ k. inl (omega arith)) w6 in
    let w4 = rows_few (entry_bad f t) t.methods BadEntry a5 (λ k. inl (omega arith)) w5 in
    let w3 = few (length_bad f t) BadLength a4 (inl (omega arith)) w4 in
    few (ltb (length f) 14) TooShort (refused (count_bad f) 6 BadCount a3) (inl (omega arith)) (rows_few (count_bad f) 6 BadCount a3 (λ k. inl (omega arith)) w3)
