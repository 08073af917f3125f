-- Two files with the same rows, opening stock and all, are judged alike. A row's test reads the fields of a node only after it has found the
-- node in the table, so what stands past a table's end changes no answer.
use Prim.Native.Nat.{ℕ, zero, suc, ◌-◌, ◌<◌}
use mathlib.Core.Path.{◌≡◌, refl, sym, subst, ap, ◌∙◌}
use mathlib.Core.Bool.{Bool, true, false, cond}
use mathlib.Core.List.{List}
use native.Mathlib.Decide.{dec_lt}
use native.Mathlib.Omega.{arith}
use lib.ListN.{length}
use lib.Dec.{ltb, eqb}
use borrow.Author.Tests.{le-leb, lt-leb}
use Rattle.words.specs.Lowest.{lowest}
use Rattle.words.proofs.Lowest.{lowest_same}
use Rattle.answer.specs.declared.Answer.{Answer}
use Rattle.answer.specs.declared.Answer.TheVariants.{Pass, TooShort, BadCount, BadLength, BadEntry, BadFlow, BadCall, BadParent, BadCatch, BadOpening}
use Rattle.answer.specs.Number.{number_of, type_of, place_of, line_of, Says}
use Rattle.answer.proofs.Unpack.{zero_pass}
use Rattle.graph_tables.specs.declared.Tables.{Tables}
use Rattle.graph_tables.specs.Trailer.{tables_of}
use Rattle.graph_tables.specs.Fields.{entry_of, node_number, parent_of, flow_from, flow_to, call_node, catch_from, catch_exception, catch_to}
use Rattle.graph_tables.specs.Family.{climb, nearest}
use Rattle.graph_refuse.specs.Bad.{not_above, flow_row, call_row, catch_row, count_bad, length_bad, entry_bad, node_bad, flow_bad, call_bad, parent_bad, kin, throws_other, catch_bad, uncalled, opening_bad}
use Rattle.graph_places.specs.Places.{bad_node_at, no_call_row_at}
use Rattle.graph_scan.specs.Scan.{refused}
use Rattle.graph.specs.Judge.{judge_rows, judge_in, judge_of}
use Rattle.graph_tables.proofs.SameRows.{SameRows, SameOpening, SameFields, same_counts, same_tables, same_fields, same_parents, same_opening_count}

-- two answers with the same number, the same type and the same place
pub record Agree (a b : Answer) : Type 0 where
  pub number : number_of a ≡ number_of b
  pub type : type_of a ≡ type_of b
  pub place : place_of a ≡ place_of b

pub agree : {a b : Answer} {n k p l m : ℕ} → Says a n k p l → Says b n k p m → Agree a b
agree v w =
    record { number = v.number_is ∙ sym w.number_is; type = v.type_is ∙ sym w.type_is; place = v.place_is ∙ sym w.place_is }

-- what an answer says, as the one that agrees says it
pub said : {a b : Answer} → Agree a b → Says b (number_of a) (type_of a) (place_of a) (line_of b)
said e = record { number_is = sym e.number; type_is = sym e.type; place_is = sym e.place; line_is = refl }

same_answer : (a : Answer) → Agree a a
same_answer a = record { number = refl; type = refl; place = refl }

-- two tests that agree, and two answers for each outcome
either : (b : Bool) {a c x y : Answer} → Agree a c → Agree x y → Agree (cond b a x) (cond b c y)
either true p q = p
either false p q = q

refused_alike : (p q : ℕ → Bool) (n : ℕ) (a c : ℕ → Answer) {x y : Answer} → ((k : ℕ) → k < n → p k ≡ q k) → ((k : ℕ) → Agree (a k) (c k)) → Agree x y
    → Agree (refused p n a x) (refused q n c y)
refused_alike p q n a c h e w = rw (lowest_same p q n h) (either (ltb (lowest q n) n) (e _) w)

-- a row and the row before it
not_above_same : (p q : ℕ → List ℕ) (n k : ℕ) → ((j : ℕ) → j < n → p j ≡ q j) → k < n → not_above p k ≡ not_above q k
unfolding not_above
not_above_same p q n k h l = simp (h k l, h (k - 1) (omega arith))

module _ (f g : List ℕ) (A : SameRows f g) (B : SameOpening f g) where
  abbrev t : Tables
  t = tables_of f

  S : SameFields f g t
  S = same_fields f g A

  -- The tests of the rows, table by table.
  count_same : (i : ℕ) → count_bad f i ≡ count_bad g i
  unfolding count_bad
  count_same i = simp (same_counts A i)

  length_same : length_bad f t ≡ length_bad g t
  unfolding length_bad
  length_same = simp (A.one_length, same_counts A 6)

  entry_same : (m : ℕ) → m < t.methods → entry_bad f t m ≡ entry_bad g t m
  unfolding entry_bad
  entry_same m l = elim (dec_lt (entry_of g m) t.nodes) [
    | yes a ↦ simp (S.entry m l, S.method (entry_of g m) a)
    | no a ↦ simp (S.entry m l, le-leb t.nodes (entry_of g m) (omega arith))
  ]

  node_same : (n : ℕ) → n < t.nodes → node_bad f t n ≡ node_bad g t n
  unfolding node_bad
  node_same n l = simp (S.method n l, S.kind n l, S.number n l, S.count n l, S.rights n l)

  flow_row_same : (k : ℕ) → k < t.flows → flow_row f t k ≡ flow_row g t k
  unfolding flow_row
  flow_row_same k l = simp (S.flow_from_same k l, S.flow_to_same k l)

  call_row_same : (k : ℕ) → k < t.calls → call_row f t k ≡ call_row g t k
  unfolding call_row
  call_row_same k l = simp (S.call_node_same k l, S.call_method_same k l)

  catch_row_same : (k : ℕ) → k < t.catches → catch_row f t k ≡ catch_row g t k
  unfolding catch_row
  catch_row_same k l = simp (S.catch_from_same k l, S.catch_exception_same k l, S.catch_to_same k l)

  flow_same : (k : ℕ) → k < t.flows → flow_bad f t k ≡ flow_bad g t k
  unfolding flow_bad
  flow_same k l =
      let m = flow_from g t k in
      let n = flow_to g t k in
      elim (dec_lt m t.nodes) [
        | no a ↦ simp (S.flow_from_same k l, le-leb t.nodes m (omega arith))
        | yes a ↦ elim (dec_lt n t.nodes) [
          | no b ↦ simp (S.flow_from_same k l, S.flow_to_same k l, lt-leb t.nodes m a, le-leb t.nodes n (omega arith))
          | yes b ↦ simp (S.flow_from_same k l, S.flow_to_same k l, S.kind m a, S.method m a, S.method n b, not_above_same (flow_row f t) (flow_row g t) t.flows k flow_row_same l)
        ]
      ]

  call_same : (k : ℕ) → k < t.calls → call_bad f t k ≡ call_bad g t k
  unfolding call_bad
  call_same k l =
      let n = call_node g t k in
      elim (dec_lt n t.nodes) [
        | no a ↦ simp (S.call_node_same k l, le-leb t.nodes n (omega arith))
        | yes a ↦ simp (S.call_node_same k l, S.call_method_same k l, S.kind n a, not_above_same (call_row f t) (call_row g t) t.calls k call_row_same l)
      ]

  parent_same : (e : ℕ) → parent_bad f t e ≡ parent_bad g t e
  unfolding parent_bad
  parent_same e = simp (same_parents f g A B e)

  climb_same : (p : ℕ → Bool) (k e : ℕ) → climb f t p k e ≡ climb g t p k e
  unfolding climb
  climb_same p zero e = refl
  climb_same p (suc k) e = simp (same_parents f g A B e, climb_same p k (parent_of g t e))

  kin_same : (e c : ℕ) → kin f t e c ≡ kin g t e c
  unfolding kin nearest
  kin_same e c = simp (climb_same (λ a. eqb a c) e e)

  throws_same : (n e : ℕ) → n < t.nodes → throws_other f t n e ≡ throws_other g t n e
  unfolding throws_other
  throws_same n e l = simp (S.kind n l, S.number n l, kin_same (node_number g t n) e)

  catch_same : (k : ℕ) → k < t.catches → catch_bad f t k ≡ catch_bad g t k
  unfolding catch_bad
  catch_same k l =
      let m = catch_from g t k in
      let n = catch_to g t k in
      elim (dec_lt m t.nodes) [
        | no a ↦ simp (S.catch_from_same k l, le-leb t.nodes m (omega arith))
        | yes a ↦ elim (dec_lt n t.nodes) [
          | no b ↦ simp (S.catch_from_same k l, S.catch_to_same k l, lt-leb t.nodes m a, le-leb t.nodes n (omega arith))
          | yes b ↦ simp (S.catch_from_same k l, S.catch_exception_same k l, S.catch_to_same k l, throws_same m (catch_exception g t k) a, S.method m a, S.method n b, not_above_same (catch_row f t) (catch_row g t) t.catches k catch_row_same l)
        ]
      ]

  called_same : (n : ℕ) → n < t.nodes → uncalled f t n ≡ uncalled g t n
  unfolding uncalled
  called_same n l = simp (S.kind n l, lowest_same (λ k. eqb (call_node f t k) n) (λ k. eqb (call_node g t k) n) t.calls (λ k h. ap (λ x. eqb x n) (S.call_node_same k h)))

  opening_same : (k : ℕ) → k < t.types → opening_bad f t k ≡ opening_bad g t k
  unfolding opening_bad
  opening_same k l = simp (same_opening_count f g A B k)

  judged_in : Agree (judge_in f t) (judge_in g t)
  unfolding judge_in judge_rows
  judged_in =
      rw (A.one_length, length_same)
      (either (ltb (length g) 14) (same_answer TooShort)
      (refused_alike (count_bad f) (count_bad g) 6 BadCount BadCount (λ i l. count_same i) (λ k. same_answer _)
      (either (length_bad g t) (same_answer BadLength)
      (refused_alike (entry_bad f t) (entry_bad g t) t.methods BadEntry BadEntry entry_same (λ k. same_answer _)
      (refused_alike (node_bad f t) (node_bad g t) t.nodes (bad_node_at f t) (bad_node_at g t) node_same (λ k. record { number = refl; type = refl; place = refl })
      (refused_alike (flow_bad f t) (flow_bad g t) t.flows BadFlow BadFlow flow_same (λ k. same_answer _)
      (refused_alike (call_bad f t) (call_bad g t) t.calls BadCall BadCall call_same (λ k. same_answer _)
      (refused_alike (parent_bad f t) (parent_bad g t) 8 BadParent BadParent (λ e l. parent_same e) (λ k. same_answer _)
      (refused_alike (catch_bad f t) (catch_bad g t) t.catches BadCatch BadCatch catch_same (λ k. same_answer _)
      (refused_alike (uncalled f t) (uncalled g t) t.nodes (no_call_row_at f t) (no_call_row_at g t) called_same (λ k. record { number = refl; type = refl; place = refl })
      (refused_alike (opening_bad f t) (opening_bad g t) t.types BadOpening BadOpening opening_same (λ k. same_answer _) (same_answer Pass))))))))))))

  -- The judge gives both the same number, the same type and the same place,
  pub judged_alike : Agree (judge_of f) (judge_of g)
  judged_alike = subst (λ u. Agree (judge_of f) (judge_in g u)) (same_tables A) judged_in

  -- so if one passes, so does the other.
  pub pass_alike : judge_of f ≡ Pass → judge_of g ≡ Pass
  pass_alike p = zero_pass (judge_of g) (sym judged_alike.number ∙ ap number_of p)
