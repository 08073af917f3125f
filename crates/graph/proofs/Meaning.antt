-- The judge's answer is the first that applies, and there is no second answer of which that can be said.
use Prim.Native.Nat.{ℕ, suc, ◌<◌}
use mathlib.Core.Path.{◌≡◌, refl, sym, subst, ap, ◌∙◌}
use mathlib.Core.Bool.{Bool, true, false, cond, true≢false}
use mathlib.Core.Logic.{inl, inr}
use mathlib.Core.List.{List}
use native.Mathlib.Decide.{dec_lt}
use native.Mathlib.Omega.{arith}
use lib.ListN.{length}
use lib.Dec.{ltb, eqb}
use borrow.Author.Tests.{ltb-true, lt-ltb}
use Rattle.words.specs.Lowest.{lowest}
use Rattle.words.proofs.Lowest.{is_lowest, none_found}
use Rattle.answer.specs.declared.Answer.{Answer}
use Rattle.answer.specs.declared.Answer.TheVariants.{Pass, TooShort, BadCount, BadLength, BadEntry, BadNode, BadFlow, BadCall, BadCatch, BadOpening, BadParent, NoCallRow}
use Rattle.answer.specs.Number.{place_of}
use Rattle.answer.proofs.Settled.{says_only, says}
use Rattle.graph_tables.specs.declared.Tables.{Tables}
use Rattle.graph_tables.specs.Trailer.{tables_of}
use Rattle.graph_refuse.specs.Bad.{count_bad, length_bad, entry_bad, node_bad, flow_bad, call_bad, parent_bad, catch_bad, uncalled, opening_bad}
use Rattle.graph_places.specs.Places.{bad_node_at, no_call_row_at}
use Rattle.graph_scan.specs.Scan.{refused}
use Rattle.graph.specs.Judge.{judge_rows, judge_in, judge_of}
use Rattle.graph.specs.Meaning.{Given, too_short, bad_count, bad_length, bad_entry, bad_node, bad_flow, bad_call, bad_parent, bad_catch, no_call_row, bad_opening, turn_of, Before, Judges, refuses, passes}

module _ (f : List ℕ) where
  abbrev t : Tables
  t = tables_of f

  -- the refusal of the file that has the turn and the place
  abbrev in_turn : ℕ → ℕ → Answer
  in_turn c p =
      cond (eqb c 0) TooShort
      (cond (eqb c 1) (BadCount p)
      (cond (eqb c 2) BadLength
      (cond (eqb c 3) (BadEntry p)
      (cond (eqb c 4) (bad_node_at f t p)
      (cond (eqb c 5) (BadFlow p)
      (cond (eqb c 6) (BadCall p)
      (cond (eqb c 7) (BadParent p)
      (cond (eqb c 8) (BadCatch p)
      (cond (eqb c 9) (no_call_row_at f t p)
      (BadOpening p))))))))))

  -- what is refused about the file has its turn among eleven
  about_file : {b : Answer} → Given f t b → turn_of b < 11
  unfolding lowest
  about_file (too_short l) = omega arith
  about_file (bad_count l h) = omega arith
  about_file (bad_length h) = omega arith
  about_file (bad_entry l h) = omega arith
  about_file (bad_node l h e) = omega arith
  about_file (bad_flow l h) = omega arith
  about_file (bad_call l h) = omega arith
  about_file (bad_parent l h) = omega arith
  about_file (bad_catch l h) = omega arith
  about_file (no_call_row l h e) = omega arith
  about_file (bad_opening l h) = omega arith

  -- and turn and place settle it
  found : {b : Answer} → Given f t b → in_turn (turn_of b) (place_of b) ≡ b
  unfolding lowest
  found (too_short l) = refl
  found (bad_count l h) = refl
  found (bad_length h) = refl
  found (bad_entry l h) = refl
  found (bad_node {k} l h e) = ap (BadNode k) (sym e)
  found (bad_flow l h) = refl
  found (bad_call l h) = refl
  found (bad_parent l h) = refl
  found (bad_catch l h) = refl
  found (no_call_row {n} l h e) = ap (NoCallRow n) (sym e)
  found (bad_opening l h) = refl

  settled : (a b : Answer) → Given f t a → Given f t b → turn_of a ≡ turn_of b → place_of a ≡ place_of b → a ≡ b
  settled a b g h p q = sym (found g) ∙ (λ i. in_turn (p i) (q i)) ∙ found h

  -- no refusal with a turn below c applies
  abbrev NoneTo : ℕ → Type 0
  NoneTo c = (b : Answer) → turn_of b < c → Given f t b → ⊥

  -- the answer has this turn and this place
  abbrev Stands : Answer → ℕ → ℕ → Type 0
  Stands a c p = (turn_of a ≡ c) × (place_of a ≡ p)

  module _ (c : ℕ) (answer : ℕ → Answer) (own : (k : ℕ) → in_turn c k ≡ answer k) (none : NoneTo c) where
    -- an answer with the turn c is the one for its place
    at_place : (b : Answer) → turn_of b ≡ c → Given f t b → Given f t (answer (place_of b))
    at_place b e g = subst (Given f t) (sym (found g) ∙ (λ i. in_turn (e i) (place_of b)) ∙ own (place_of b)) g

    -- where none of them applies either, none up to c does
    none_more : ((k : ℕ) → Given f t (answer k) → ⊥) → NoneTo (suc c)
    none_more h b l g = elim (dec_lt (turn_of b) c) [
      | yes k ↦ none b k g
      | no k ↦ h (place_of b) (at_place b (omega arith) g)
    ]

    -- the first is the one with the lowest place
    first : (k : ℕ) → Stands (answer k) c k → Given f t (answer k) → ((j : ℕ) → j < k → Given f t (answer j) → ⊥) → Judges f (answer k)
    first k s g low = refuses g go
      where
        go : (b : Answer) → Before b (answer k) → Given f t b → ⊥
        go b (inl l) = none b (omega (arith, s.0))
        go b (inr l) = λ h. low (place_of b) (omega (arith, l.1, s.1)) (at_place b (l.0 ∙ s.0) h)

    -- a table whose rows are refused by the test `bad`
    rows_judge : (bad : ℕ → Bool) (n : ℕ) (next : Answer) → ((k : ℕ) → Stands (answer k) c k) → ((k : ℕ) → k < n → bad k ≡ true → Given f t (answer k))
        → ((k : ℕ) → Given f t (answer k) → (k < n) × (bad k ≡ true)) → (NoneTo (suc c) → Judges f next) → Judges f (refused bad n answer next)
    rows_judge bad n next s make back later = go (ltb (lowest bad n) n) refl
      where
        go : (v : Bool) → ltb (lowest bad n) n ≡ v → Judges f (cond v (answer (lowest bad n)) next)
        go true e =
            let l = ltb-true (lowest bad n) n e in
            first (lowest bad n) (s _) (make _ l ((is_lowest bad n).found l)) (λ j k g. true≢false (sym (back j g).1 ∙ (is_lowest bad n).before j k))
        go false e = later (none_more (λ k g. true≢false (sym (back k g).1 ∙ none_found bad n e k (back k g).0)))

    -- a test of the whole file
    file_judge : (bad : Bool) (next : Answer) → Stands (answer 0) c 0 → (bad ≡ true → Given f t (answer 0)) → ((k : ℕ) → Given f t (answer k) → bad ≡ true)
        → (NoneTo (suc c) → Judges f next) → Judges f (cond bad (answer 0) next)
    file_judge bad next s make back later = go bad refl
      where
        go : (v : Bool) → bad ≡ v → Judges f (cond v (answer 0) next)
        go true e = first 0 s (make e) (λ j k g. absurd (omega arith))
        go false e = later (none_more (λ k g. true≢false (sym (back k g) ∙ e)))

  -- The judge's answer is the first that applies.
  pub judges : Judges f (judge_of f)
  unfolding judge_in judge_rows lowest
  judges =
      file_judge 0 (λ k. TooShort) (λ k. refl) (λ b l g. omega arith) _ _ (refl, refl) (λ h. too_short (ltb-true (length f) 14 h)) (λ k g. short g)
      (λ n1. rows_judge 1 BadCount (λ k. refl) n1 _ _ _ (λ k. (refl, refl)) (λ k l h. bad_count l h) (λ k g. count g)
      (λ n2. file_judge 2 (λ k. BadLength) (λ k. refl) n2 _ _ (refl, refl) (λ h. bad_length h) (λ k g. long g)
      (λ n3. rows_judge 3 BadEntry (λ k. refl) n3 _ _ _ (λ k. (refl, refl)) (λ k l h. bad_entry l h) (λ k g. entry g)
      (λ n4. rows_judge 4 (bad_node_at f t) (λ k. refl) n4 _ _ _ (λ k. (refl, refl)) (λ k l h. bad_node l h refl) (λ k g. node g)
      (λ n5. rows_judge 5 BadFlow (λ k. refl) n5 _ _ _ (λ k. (refl, refl)) (λ k l h. bad_flow l h) (λ k g. flow g)
      (λ n6. rows_judge 6 BadCall (λ k. refl) n6 _ _ _ (λ k. (refl, refl)) (λ k l h. bad_call l h) (λ k g. call g)
      (λ n7. rows_judge 7 BadParent (λ k. refl) n7 _ _ _ (λ k. (refl, refl)) (λ k l h. bad_parent l h) (λ k g. parent g)
      (λ n8. rows_judge 8 BadCatch (λ k. refl) n8 _ _ _ (λ k. (refl, refl)) (λ k l h. bad_catch l h) (λ k g. catch g)
      (λ n9. rows_judge 9 (no_call_row_at f t) (λ k. refl) n9 _ _ _ (λ k. (refl, refl)) (λ k l h. no_call_row l h refl) (λ k g. lost g)
      (λ n10. rows_judge 10 BadOpening (λ k. refl) n10 _ _ _ (λ k. (refl, refl)) (λ k l h. bad_opening l h) (λ k g. opening g)
      (λ n11. passes (λ b g. n11 b (about_file g) g) (says Pass))))))))))))
    where
      short : Given f t TooShort → ltb (length f) 14 ≡ true
      short (too_short l) = lt-ltb (length f) 14 l

      count : {i : ℕ} → Given f t (BadCount i) → (i < 6) × (count_bad f i ≡ true)
      count (bad_count l h) = (l, h)

      long : Given f t BadLength → length_bad f t ≡ true
      long (bad_length h) = h

      entry : {k : ℕ} → Given f t (BadEntry k) → (k < t.methods) × (entry_bad f t k ≡ true)
      entry (bad_entry l h) = (l, h)

      node : {k l : ℕ} → Given f t (BadNode k l) → (k < t.nodes) × (node_bad f t k ≡ true)
      node (bad_node l h e) = (l, h)

      flow : {k : ℕ} → Given f t (BadFlow k) → (k < t.flows) × (flow_bad f t k ≡ true)
      flow (bad_flow l h) = (l, h)

      call : {k : ℕ} → Given f t (BadCall k) → (k < t.calls) × (call_bad f t k ≡ true)
      call (bad_call l h) = (l, h)

      parent : {e : ℕ} → Given f t (BadParent e) → (e < 8) × (parent_bad f t e ≡ true)
      parent (bad_parent l h) = (l, h)

      catch : {k : ℕ} → Given f t (BadCatch k) → (k < t.catches) × (catch_bad f t k ≡ true)
      catch (bad_catch l h) = (l, h)

      lost : {n l : ℕ} → Given f t (NoCallRow n l) → (n < t.nodes) × (uncalled f t n ≡ true)
      lost (no_call_row l h e) = (l, h)

      opening : {k : ℕ} → Given f t (BadOpening k) → (k < t.types) × (opening_bad f t k ≡ true)
      opening (bad_opening l h) = (l, h)

  -- Two answers of which that can be said are one.
  same : {a b : Answer} → Judges f a → Judges f b → a ≡ b
  same {a} {b} (refuses g h) (refuses k l) = elim (dec_lt (turn_of a) (turn_of b)) [
    | yes u ↦ absurd (l a (inl u) g)
    | no u ↦ elim (dec_lt (turn_of b) (turn_of a)) [
      | yes v ↦ absurd (h b (inl v) k)
      | no v ↦
          let e : turn_of a ≡ turn_of b = omega arith in
          elim (dec_lt (place_of a) (place_of b)) [
            | yes x ↦ absurd (l a (inr (e, x)) g)
            | no x ↦ elim (dec_lt (place_of b) (place_of a)) [
              | yes y ↦ absurd (h b (inr (sym e, y)) k)
              | no y ↦ settled a b g k e (omega arith)
            ]
          ]
    ]
  ]
  same {a} (refuses g h) (passes k s) = absurd (k a g)
  same {a} {b} (passes h s) (refuses k l) = absurd (h b k)
  same (passes h s) (passes k u) = says_only Pass s ∙ sym (says_only Pass u)

  -- of an answer that is known to be the judge's
  pub judges_as : {a : Answer} → judge_of f ≡ a → Judges f a
  judges_as e = subst (Judges f) e judges

  -- There is no second.
  pub judge_only : {a : Answer} → Judges f a → a ≡ judge_of f
  judge_only h = same h judges
