-- A pair of files: one draw, on a count of 1 and on a count of 0. The one is raised from the other, both get verdicts, and the verdicts are
-- pass and overdrawn: so the premises can be met, and lowering an allowance can turn pass into overdrawn.
use Prim.Native.Nat.{ℕ, zero, suc, ◌%◌, ◌<◌}
use mathlib.Core.Path.{◌≡◌, refl, sym, ap, subst}
use mathlib.Core.Logic.{⊎_elim}
use mathlib.Core.List.{List, [], ◌∷◌, ◌++◌}
use native.Mathlib.Nat.{le_refl}
use native.Mathlib.Omega.{arith}
use lib.ListN.{length, get_or, replicate, length-replicate}
use Rattle.words.specs.Bytes.{byte_at, word_at}
use Rattle.words.specs.Lowest.{lowest}
use Rattle.answer.specs.declared.Answer.{Answer}
use Rattle.answer.specs.declared.Answer.TheVariants.{Pass}
use Rattle.answer.specs.Number.{number_of}
use Rattle.effect.specs.declared.Stock.{Stock}
use Rattle.model.specs.Machine.{Config, At, Out, Step, along, enter, again, back, caught, leaves, handled, passes, Steps, stay, more}
use Rattle.model.specs.Program.{doings}
use Rattle.graph_tables.specs.Trailer.{trailer_at, trailer, tables_of}
use Rattle.graph_tables.specs.Fields.{entry_of, node_method, node_kind, node_number, node_count, node_rights, parent_of, opening_rights, opening_count}
use Rattle.graph_refuse.specs.Bad.{count_bad, length_bad, entry_bad, out_of_range, unused_set, node_bad, parent_bad, uncalled, opening_bad}
use Rattle.graph.specs.Judge.{judge_rows, judge_in, judge_of}
use Rattle.graph.specs.Graph.{graph_of}
use Rattle.graph_nodes.specs.Nodes.{does_in, opening_in}
use Rattle.graph_nodes.specs.Program.{program_of, Overdrawing}
use Rattle.sheet_layout.specs.Layout.{sheet_bytes}
use Rattle.rule_test.specs.Sheet.{shape}
use Rattle.work.proofs.Meaning.{verdict}
use Rattle.work.proofs.Settles.{some_worked}
use Rattle.raised.specs.Opening.{Raised}
use Rattle.raised.specs.Outcome.{Verdict}
use Rattle.raised.proofs.Verdicts.{a_verdict, says}

-- one method, and one node that draws 0101h of type 0; the opening stock has that right
abbrev before : List ℕ
before = 0 ∷ 0 ∷ 0 ∷ 2 ∷ 0 ∷ 0 ∷ 1 ∷ 1 ∷ 0 ∷ 0 ∷ replicate 8 255 ++ (1 ∷ 1 ∷ [])

abbrev behind : List ℕ
behind = 0 ∷ 1 ∷ 0 ∷ 1 ∷ 0 ∷ 0 ∷ 0 ∷ 0 ∷ 0 ∷ 0 ∷ 0 ∷ 1 ∷ 0 ∷ 22 ∷ 0 ∷ []

-- with that count
abbrev opened : ℕ → List ℕ
opened count = before ++ (count ∷ behind)

abbrev pub lower : List ℕ
lower = opened 0

abbrev pub higher : List ℕ
higher = opened 1

-- two lists with one number between
apart : (l : List ℕ) (a b : ℕ) (m : List ℕ) (p : ℕ) → (p ≡ length l → ⊥) → get_or (l ++ (a ∷ m)) p 0 ≡ get_or (l ++ (b ∷ m)) p 0
apart [] a b m zero n = absurd (n refl)
apart [] a b m (suc p) n = refl
apart (c ∷ l) a b m zero n = refl
apart (c ∷ l) a b m (suc p) n = apart l a b m p (λ e. n (ap suc e))

one_type : (k : ℕ) → k < (tables_of lower).types → k ≡ 0
unfolding byte_at word_at trailer_at trailer tables_of
one_type k l = omega arith

pub is_raised : Raised lower higher
unfolding byte_at word_at trailer_at trailer tables_of opening_rights opening_count
is_raised = record {
  but_opening = record { one_length = refl; same_bytes = λ p n. ap (λ v. v % 256) (apart before 0 1 behind p (λ e. n (omega arith, omega arith))) };
  rights = λ k l b. rw (one_type k l) (le_refl _);
  count = λ k l. rw (one_type k l) (omega arith);
}

-- no test refuses either
lower_stands : judge_of lower ≡ Pass
unfolding byte_at word_at lowest trailer_at trailer tables_of entry_of node_method node_kind node_number node_count node_rights parent_of opening_count count_bad length_bad entry_bad out_of_range unused_set node_bad parent_bad uncalled opening_bad judge_rows judge_in
lower_stands = refl

higher_stands : judge_of higher ≡ Pass
unfolding byte_at word_at lowest trailer_at trailer tables_of entry_of node_method node_kind node_number node_count node_rights parent_of opening_count count_bad length_bad entry_bad out_of_range unused_set node_bad parent_bad uncalled opening_bad judge_rows judge_in
higher_stands = refl

-- and a file that no test refuses gets a verdict.
pub gets_verdict : (f : List ℕ) → judge_of f ≡ Pass → (r : List ℕ) × (a : Answer) × Verdict f r a
gets_verdict f pass =
    let s : List ℕ = replicate (sheet_bytes (shape f)) 0 in
    let long : length s ≡ sheet_bytes (shape f) = length-replicate (sheet_bytes (shape f)) 0 in
    let w = some_worked f pass s long in
    (w.0, _, a_verdict pass long (verdict f s w.0 long w.1))

pub lower_verdict : (r : List ℕ) × (a : Answer) × Verdict lower r a
lower_verdict = gets_verdict lower lower_stands

pub higher_verdict : (q : List ℕ) × (b : Answer) × Verdict higher q b
higher_verdict = gets_verdict higher higher_stands

-- With a count of 0 the run that starts overdraws;
overdraws : Overdrawing lower 0
unfolding byte_at word_at trailer_at trailer tables_of entry_of node_kind node_number node_rights opening_rights opening_count does_in opening_in
overdraws = ((program_of lower).opening, ([], stay), λ c. omega (arith, c.a_count))

pub lower_overdrawn : {r : List ℕ} {a : Answer} → Verdict lower r a → number_of a ≡ 13
lower_overdrawn c = ⊎_elim (λ p. absurd (p.1 0 overdraws)) (λ l. l.number) (says c).1

-- with a count of 1 it does not, and it is the only run: the one node has no row to follow.
only_draw : (n : ℕ) → n < (tables_of higher).nodes → node_kind higher (tables_of higher) n ≡ 2
unfolding byte_at word_at trailer_at trailer tables_of node_kind
only_draw n l = let e : n ≡ 0 = omega arith in rw e refl

no_flow : (k : ℕ) → k < (tables_of higher).flows → ⊥
unfolding byte_at word_at trailer_at trailer tables_of
no_flow k l = omega arith

abbrev start : Config Stock
start = At 0 [] (program_of higher).opening

abbrev Leaving : Config Stock → Type 0
Leaving (At n σ s) = ⊥
Leaving (Out e σ s) = Unit {0}

stuck : {b c : Config Stock} → Step (graph_of higher) (doings (program_of higher)) b c → b ≡ start → ⊥
stuck (along g (k, l, p, q)) e = no_flow k l
stuck (enter {c} h l) e = omega (arith, only_draw c h.0, h.1)
stuck (again {n} r h) e = omega (arith, only_draw n r.0, r.1)
stuck (back {n} r f) e = omega (arith, only_draw n r.0, r.1)
stuck (caught {n} t c) e = omega (arith, only_draw n t.0.0, t.0.1)
stuck (leaves {n} t u) e = omega (arith, only_draw n t.0.0, t.0.1)
stuck (handled c) e = subst Leaving e tt
stuck (passes u) e = subst Leaving e tt

stays : {c : Config Stock} → Steps (graph_of higher) (doings (program_of higher)) start c → c ≡ start
stays stay = refl
stays (more p q) = absurd (stuck q (stays p))

abbrev Covering : Config Stock → Type 0
Covering (At n σ s) = (doings (program_of higher)).Covers n s
Covering (Out e σ s) = Unit {0}

covers : Covering start
unfolding byte_at word_at trailer_at trailer tables_of node_kind node_number node_rights opening_rights opening_count does_in opening_in
covers = record { a_type = omega arith; every_right = λ b. le_refl _; a_count = omega arith }

none_overdraws : (n : ℕ) → Overdrawing higher n → ⊥
unfolding byte_at word_at trailer_at trailer entry_of
none_overdraws n (s, (σ, p), u) = u (subst Covering (sym (stays p)) covers)

pub higher_passed : {q : List ℕ} {b : Answer} → Verdict higher q b → number_of b ≡ 0
higher_passed d = ⊎_elim (λ p. p.0) (λ l. absurd (none_overdraws _ l.somewhere)) (says d).1
