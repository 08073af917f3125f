-- What check computes is what its answers mean, no other answer is, and what it accepts no run overdraws.
use Prim.Native.Nat.{ℕ, ◌/◌, ◌%◌, ◌≤◌, ◌<◌}
use mathlib.Core.Path.{◌≡◌, refl, sym, ap, subst, ◌∙◌}
use mathlib.Core.Bool.{Bool, true, false, cond}
use mathlib.Core.Logic.{◌↔◌}
use mathlib.Core.List.{List}
use native.Mathlib.Decide.{dec_lt, dec_le}
use native.Mathlib.Omega.{arith}
use lib.ListN.{length}
use lib.Dec.{ltb, eqb}
use borrow.Author.Tests.{ltb-true, ltb-false, lt-ltb, le-ltb, eqb-true, eqb-false, eq-eqb, ne_eqb}
use Rattle.words.specs.Lowest.{lowest}
use Rattle.words.proofs.Lowest.{NoneBelow, lowest_is, lowest_none, is_lowest}
use Rattle.answer.specs.declared.Answer.{Answer}
use Rattle.answer.specs.declared.Answer.TheVariants.{Pass, BadSheet, BadBlock, Broken}
use Rattle.answer.specs.Number.{number_of}
use Rattle.answer.proofs.Settled.{says_only, says}
use Rattle.answer.proofs.Unpack.{zero_pass}
use Rattle.effect.specs.Meaning.{LowestFailing}
use Rattle.effect.proofs.Bools.{clash}
use Rattle.effect.proofs.Failing.{one_lowest}
use Rattle.model.proofs.Greatest.{Obeys}
use Rattle.model.specs.Stocks.{permits}
use Rattle.model.specs.Program.{steps}
use Rattle.model.proofs.Exact.{never_overdraws}
use Rattle.graph_tables.specs.declared.Tables.{Tables}
use Rattle.graph_tables.specs.Trailer.{tables_of}
use Rattle.graph_places.specs.Places.{overdrawn_at}
use Rattle.graph.specs.Judge.{judge_of}
use Rattle.graph.specs.Judgement.{shape_of}
use Rattle.graph_nodes.specs.Program.{program_of, Safe}
use Rattle.graph_nodes.proofs.Setting.{setting}
use Rattle.sheet_layout.specs.declared.Shape.{Shape}
use Rattle.sheet_layout.specs.Layout.{block_count, block_at, sheet_bytes}
use Rattle.sheet_formed.specs.Ill.{ill_block, first_ill}
use Rattle.rule_test.specs.Keys.{no_key, least_key}
use Rattle.rule_test.specs.Sheet.{sheet, WellFormed, Holds, HoldsAt, IsReached}
use Rattle.rule_test.proofs.Exact.{rules_below, rule_broken, rules_beyond, type_lowest}
use Rattle.accept_draws.specs.Draws.{uncovered_at}
use Rattle.accept.specs.Check.{whole_sheet, judged_sheet, check_of}
use Rattle.accept.specs.Meaning.{IsCovered, Checks, refused, wrong_length, ill_formed, broken, overdrawn, accepted}
use Rattle.accept.proofs.Draws.{uncovered_says, covered_says}

module _ (f s : List ℕ) where
  abbrev t : Tables
  t = tables_of f

  abbrev x : Shape
  x = shape_of t

  -- each step of the computation under the test that leads there
  passes : judge_of f ≡ Pass → eqb (number_of (judge_of f)) 0 ≡ true
  passes p = ap (λ a. eqb (number_of a) 0) p

  whole_of : ((b : ℕ) → b < block_count x → ill_block s x b ≡ false) → first_ill s x ≡ block_count x
  whole_of h = lowest_none (ill_block s x) (block_count x) h

  checked_whole : WellFormed f s → check_of f s ≡ whole_sheet f t x s
  unfolding check_of judged_sheet
  checked_whole w =
      let n : ltb (first_ill s x) (block_count x) ≡ false = le-ltb (first_ill s x) (block_count x) (omega (arith, whole_of w.2)) in
      rw (passes w.0, eq-eqb _ _ w.1, n) refl

  module _ (w : WellFormed f s) where
    pub all_hold : no_key ≤ least_key f t x s → (r : ℕ) → Holds f s r
    all_hold h r = elim (dec_lt r 11) [
      | yes l ↦ rules_below f w.0 s (whole_of w.2) r (omega arith)
      | no l ↦ rules_beyond f w.0 s (whole_of w.2) r (omega arith)
    ]

    none_broken : ((r : ℕ) → Holds f s r) → no_key ≤ least_key f t x s
    none_broken h = elim (dec_le no_key (least_key f t x s)) [
      | yes l ↦ l
      | no l ↦ absurd (rule_broken f w.0 s (whole_of w.2) (omega arith) (h _))
    ]

    draws : no_key ≤ least_key f t x s → Checks f s (cond (ltb (lowest (uncovered_at f t x s) t.nodes) t.nodes) (overdrawn_at f t (lowest (uncovered_at f t x s) t.nodes)) Pass)
    draws h = go (ltb n t.nodes) refl
      where
        n : ℕ
        n = lowest (uncovered_at f t x s) t.nodes

        below : (m : ℕ) → m < n → IsReached f s m → IsCovered f s m
        below m k y = covered_says f s w.0 m y.0.0 ((is_lowest (uncovered_at f t x s) t.nodes).before m k) y

        go : (b : Bool) → ltb n t.nodes ≡ b → Checks f s (cond b (overdrawn_at f t n) Pass)
        go true e =
            let l = ltb-true n t.nodes e in
            let u = uncovered_says f s w.0 n l ((is_lowest (uncovered_at f t x s) t.nodes).found l) in
            overdrawn w (all_hold h) n u.0 u.1 below (says (overdrawn_at f t n))
        go false e = accepted w (all_hold h) (λ m y. below m (omega (arith, ltb-false n t.nodes e, y.0.0)) y) (says Pass)

    whole : Checks f s (whole_sheet f t x s)
    unfolding whole_sheet
    whole = go (ltb (least_key f t x s) no_key) refl
      where
        go : (b : Bool) → ltb (least_key f t x s) no_key ≡ b
            → Checks f s (cond b (Broken (least_key f t x s / 8) (least_key f t x s % 8)) (cond (ltb (lowest (uncovered_at f t x s) t.nodes) t.nodes) (overdrawn_at f t (lowest (uncovered_at f t x s) t.nodes)) Pass))
        go true e = broken w (least_key f t x s / 8) (least_key f t x s % 8) (λ q l. rules_below f w.0 s (whole_of w.2) q (omega arith)) (rule_broken f w.0 s (whole_of w.2) (ltb-true _ _ e)) (type_lowest f w.0 s (whole_of w.2) (ltb-true _ _ e)) (says (Broken (least_key f t x s / 8) (least_key f t x s % 8)))
        go false e = draws (ltb-false _ _ e)

  judged : judge_of f ≡ Pass → Checks f s (judged_sheet f t x s)
  unfolding judged_sheet
  judged p = go (eqb (length s) (sheet_bytes x)) refl
    where
      ill : length s ≡ sheet_bytes x → (b : Bool) → ltb (first_ill s x) (block_count x) ≡ b → Checks f s (cond b (BadBlock (block_at x (first_ill s x))) (whole_sheet f t x s))
      ill e true h =
          let l = ltb-true (first_ill s x) (block_count x) h in
          let r = is_lowest (ill_block s x) (block_count x) in
          ill_formed p e (first_ill s x) l (r.found l) r.before (says (BadBlock (block_at x (first_ill s x))))
      ill e false h =
          let k = ltb-false (first_ill s x) (block_count x) h in
          whole (p, e, λ b l. (is_lowest (ill_block s x) (block_count x)).before b (omega arith))

      go : (b : Bool) → eqb (length s) (sheet_bytes x) ≡ b → Checks f s (cond b (cond (ltb (first_ill s x) (block_count x)) (BadBlock (block_at x (first_ill s x))) (whole_sheet f t x s)) BadSheet)
      go true e = ill (eqb-true _ _ e) (ltb (first_ill s x) (block_count x)) refl
      go false e = wrong_length p (eqb-false _ _ e) (says BadSheet)

  -- Check's answer means what it should,
  pub checks : Checks f s (check_of f s)
  unfolding check_of
  checks = go (eqb (number_of (judge_of f)) 0) refl
    where
      go : (b : Bool) → eqb (number_of (judge_of f)) 0 ≡ b → Checks f s (cond b (judged_sheet f t x s) (judge_of f))
      go true e = judged (zero_pass (judge_of f) (eqb-true _ _ e))
      go false e = refused (λ p. clash _ (passes p) e) (says (judge_of f))

  -- and there is no second answer that does.
  pub only : {a : Answer} → Checks f s a → a ≡ check_of f s
  unfolding check_of judged_sheet whole_sheet
  only (refused n v) = says_only (judge_of f) v ∙ go (eqb (number_of (judge_of f)) 0) refl
    where
      go : (b : Bool) → eqb (number_of (judge_of f)) 0 ≡ b → judge_of f ≡ cond b (judged_sheet f t x s) (judge_of f)
      go true e = absurd (n (zero_pass (judge_of f) (eqb-true _ _ e)))
      go false e = refl
  only (wrong_length p n v) = says_only BadSheet v ∙ rw (passes p, ne_eqb (length s) (sheet_bytes x) n) refl
  only (ill_formed p e b l h below v) =
      let q : first_ill s x ≡ b = lowest_is (ill_block s x) (block_count x) b below l h in
      says_only (BadBlock (block_at x b)) v ∙ rw (passes p, eq-eqb _ _ e, q, lt-ltb _ _ l) refl
  only (broken w r k below n low v) =
      says_only (Broken r k) v ∙ sym (checked_whole w ∙ rw (lt-ltb _ _ some_key) (λ i. Broken (is_r i) (is_k i)))
    where
      few : r < 11
      few = elim (dec_lt r 11) [
        | yes h ↦ h
        | no h ↦ absurd (n (rules_beyond f w.0 s (whole_of w.2) r (omega arith)))
      ]

      some_key : least_key f t x s < no_key
      some_key = elim (dec_lt (least_key f t x s) no_key) [
        | yes h ↦ h
        | no h ↦ absurd (n (rules_below f w.0 s (whole_of w.2) r (omega (arith, few))))
      ]

      is_r : least_key f t x s / 8 ≡ r
      is_r = elim (dec_lt r (least_key f t x s / 8)) [
        | yes h ↦ absurd (n (rules_below f w.0 s (whole_of w.2) r (omega arith)))
        | no h ↦ elim (dec_lt (least_key f t x s / 8) r) [
          | yes g ↦ absurd (rule_broken f w.0 s (whole_of w.2) some_key (below _ g))
          | no g ↦ omega arith
        ]
      ]

      is_k : least_key f t x s % 8 ≡ k
      is_k = one_lowest (subst (λ q. LowestFailing (HoldsAt f s q) (least_key f t x s % 8)) is_r (type_lowest f w.0 s (whole_of w.2) some_key)) low
  only (overdrawn w h n y u below v) =
      let q : lowest (uncovered_at f t x s) t.nodes ≡ n = lowest_is (uncovered_at f t x s) t.nodes n low y.0.0 (here (uncovered_at f t x s n) refl) in
      says_only (overdrawn_at f t n) v ∙ sym (checked_whole w ∙ rw (le-ltb _ _ (none_broken w h), q, lt-ltb _ _ y.0.0) refl)
    where
      here : (b : Bool) → uncovered_at f t x s n ≡ b → uncovered_at f t x s n ≡ true
      here true e = e
      here false e = absurd (u (covered_says f s w.0 n y.0.0 e y))

      low : NoneBelow (uncovered_at f t x s) n
      low m k = go (uncovered_at f t x s m) refl
        where
          go : (b : Bool) → uncovered_at f t x s m ≡ b → uncovered_at f t x s m ≡ false
          go true e = let z = uncovered_says f s w.0 m (omega (arith, y.0.0)) e in absurd (z.1 (below m k z.0))
          go false e = e
  only (accepted w h c v) =
      let q : lowest (uncovered_at f t x s) t.nodes ≡ t.nodes = lowest_none (uncovered_at f t x s) t.nodes (λ m l. go m l (uncovered_at f t x s m) refl) in
      says_only Pass v ∙ sym (checked_whole w ∙ rw (le-ltb _ _ (none_broken w h), q, le-ltb t.nodes t.nodes (omega arith)) refl)
    where
      go : (m : ℕ) → m < t.nodes → (b : Bool) → uncovered_at f t x s m ≡ b → uncovered_at f t x s m ≡ false
      go m l true e = let z = uncovered_says f s w.0 m l e in absurd (z.1 (c m z.0))
      go m l false e = e

  -- Check accepts a sheet exactly if it is well formed, obeys the rules and covers every draw that it calls reached.
  abbrev pub Accepted : Type 0
  Accepted = WellFormed f s × Obeys permits (program_of f).graph (steps (program_of f)) (program_of f).opening (sheet f s) × ((n : ℕ) → IsReached f s n → IsCovered f s n)

  was_accepted : {a : Answer} → Checks f s a → number_of a ≡ 0 → Accepted
  was_accepted (refused n v) e = absurd (n (zero_pass (judge_of f) (sym v.number_is ∙ e)))
  was_accepted (wrong_length p n v) e = absurd (omega (arith, v.number_is))
  was_accepted (ill_formed p q b l h k v) e = absurd (omega (arith, v.number_is))
  was_accepted (broken w r k h n low v) e = absurd (omega (arith, v.number_is))
  was_accepted (overdrawn w h n y u k v) e = absurd (omega (arith, v.number_is))
  was_accepted (accepted w h k v) e = (w, h, k)

  pub accepts : (check_of f s ≡ Pass) ↔ Accepted
  accepts = (λ e. was_accepted checks (ap number_of e), λ a. sym (only (accepted a.0 a.1 a.2 (says Pass))))

  -- No graph with an accepted sheet, made by anyone, has a run that overdraws.
  pub safe : Safe f (check_of f s)
  safe e = let a = was_accepted checks e in never_overdraws (setting f a.0.0) (sheet f s) a.1 a.2

  -- an answer that is the computed one has its meaning too, and what it accepts is safe
  pub all_ensured : {r : Answer} → r ≡ check_of f s → (r ≡ check_of f s) × (Checks f s r × Safe f r)
  all_ensured e = (e, (subst (Checks f s) (sym e) checks, λ p. safe (ap number_of (sym e) ∙ p)))
