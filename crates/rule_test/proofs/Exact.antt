-- The least key is exact: every rule below the one that it names is obeyed, that one is not, and the type that it names is the lowest at which
-- that rule fails where the blocks have their marks.
--   rules_kept, rules_below, rule_broken, rules_beyond, type_lowest
use Prim.Native.Nat.{ℕ, ◌+◌, ◌*◌, ◌/◌, ◌%◌, ◌≤◌, ◌<◌}
use mathlib.Core.Path.{◌≡◌, refl, sym, subst}
use mathlib.Core.Logic.{◌⊎◌, inl, inr}
use mathlib.Core.Bool.{Bool, true, false}
use mathlib.Core.List.{List}
use native.Mathlib.Nat.{le_trans}
use native.Mathlib.Omega.{arith}
use native.Mathlib.Decide.{dec_lt}
use Rattle.answer.specs.declared.Answer.TheVariants.{Pass}
use Rattle.effect.specs.Meaning.{BelowAt, AtMostAt, LowestFailing}
use Rattle.effect.proofs.Bools.{clash}
use Rattle.effect.proofs.Failing.{fails_means, stock_fails_means}
use Rattle.graph_tables.specs.declared.Tables.{Tables}
use Rattle.graph_tables.specs.Trailer.{tables_of}
use Rattle.graph.specs.Judge.{judge_of}
use Rattle.graph.specs.Judgement.{shape_of}
use Rattle.graph_nodes.specs.Nodes.{opening_in}
use Rattle.graph_nodes.proofs.Setting.{setting}
use Rattle.sheet_layout.specs.declared.Shape.{Shape}
use Rattle.sheet_layout.specs.Layout.{block_count}
use Rattle.sheet.specs.Read.{stock_at, effect_at, marked}
use Rattle.sheet.proofs.Back.{effect_read, stock_read}
use Rattle.sheet.proofs.Marked.{mark_true, true_mark}
use Rattle.sheet_formed.specs.Ill.{first_ill}
use Rattle.rule_ask.specs.Walk.{Ask, of_effect, of_stock, rule_of, block_of, meets}
use Rattle.rule_ask.proofs.Asks.{Asks}
use Rattle.rule_test.specs.Sheet.{Holds, HoldsAt}
use Rattle.rule_test.specs.Keys.{fails_in, no_key, key_by, least_key}
use Rattle.rule_test.proofs.Blocks.{node_under, exit_under, method_under}
use Rattle.rule_test.proofs.Named.{Names, names_method, names_node, names_exit, asks_named, method_asked, node_asked, exit_asked}
use Rattle.rule_test.proofs.Keys.{key_broken, key_type, Shaped, key_shape, key_under, key_hit, rule_few}

module _ (f : List ℕ) (pass : judge_of f ≡ Pass) (s : List ℕ) (whole : first_ill s (shape_of (tables_of f)) ≡ block_count (shape_of (tables_of f))) where
  abbrev t : Tables
  t = tables_of f

  abbrev x : Shape
  x = shape_of t

  abbrev IsAsked : Ask → Type 0
  IsAsked a = Asks f t x s s a

  -- Whole rules: what is asked by a rule that is obeyed is met, and a rule is obeyed where all that it asks is met.
  named_met : {a : Ask} → Names f pass s a → Holds f s (rule_of a) → meets x s a ≡ true
  named_met (names_method r m h l hit) H =
      let i = (setting f pass).laws.first in
      (method_under x s whole m h l).1 ((H.methods_obey (hit i).1).0, λ i. le_trans ((H.methods_obey (hit i).1).1 i) (hit i).2)
  named_met (names_node r n e l hit) H =
      let i = (setting f pass).laws.first in
      (node_under x s whole n e l).1 ((H.nodes_obey (hit (opening_in f t) i).1).0, λ u i. le_trans ((H.nodes_obey (hit u i).1).1 u i) (hit u i).2)
  named_met (names_exit r m y e l k hit) H =
      let i = (setting f pass).laws.first in
      (exit_under x s whole m y e l k).1 ((H.exits_obey (hit (opening_in f t) i).1).0, λ u i. le_trans ((H.exits_obey (hit u i).1).1 u i) (hit u i).2)

  met_holds : (q : ℕ) → ((a : Ask) → IsAsked a → rule_of a ≡ q → meets x s a ≡ true) → Holds f s q
  met_holds q met = record {
    methods_obey = λ {m} h.
        let w = method_asked f pass s h in
        let p = (method_under x s whole m w.0 w.2).0 (met _ w.1 refl) in
        (p.0, λ i. le_trans (p.1 i) (w.3 i));
    nodes_obey = λ {n} h.
        let w = node_asked f pass s h in
        let p = (node_under x s whole n w.0 w.2).0 (met _ w.1 refl) in
        (p.0, λ u i. le_trans (p.1 u i) (w.3 u i));
    exits_obey = λ {m} {x = y} h.
        let w = exit_asked f pass s h in
        let p = (exit_under x s whole m y w.0 w.2 w.3).0 (met _ w.1 refl) in
        (p.0, λ u i. le_trans (p.1 u i) (w.4 u i));
  }

  -- One type: the same of what is marked.
  abbrev MetAt : ℕ → Ask → Type 0
  MetAt k (of_effect r w e) = AtMostAt k (effect_at s x.types w) e
  MetAt k (of_stock r w h) = BelowAt k (stock_at s x.types w) h

  fails_at : (a : Ask) → LowestFailing (λ k. MetAt k a) (fails_in x s a)
  fails_at (of_effect r w e) = fails_means _ e (λ k l. (effect_read s x.types w).keepmax.words k l)
  fails_at (of_stock r w h) = stock_fails_means _ h (λ k l. (stock_read s x.types w).rights.words k l)

  named_met_at : {a : Ask} → Names f pass s a → marked s (block_of a) ≡ true → (k : ℕ) → HoldsAt f s (rule_of a) k → MetAt k a
  named_met_at (names_method r m h l hit) b k H = λ i e. le_trans (H.methods_at (hit i).1 (l, mark_true s _ b) i e) (hit i).2
  named_met_at (names_node r n d l hit) b k H = λ u i e. le_trans (H.nodes_at (hit u i).1 (l, mark_true s _ b) u i e) (hit u i).2
  named_met_at (names_exit r m y d l g hit) b k H = λ u i e. le_trans (H.exits_at (hit u i).1 (l, g, mark_true s _ b) u i e) (hit u i).2

  met_holds_at : (q k : ℕ) → ((a : Ask) → IsAsked a → rule_of a ≡ q → marked s (block_of a) ≡ true → MetAt k a) → HoldsAt f s q k
  met_holds_at q k met = record {
    methods_at = λ h c i e. let w = method_asked f pass s h in le_trans (met _ w.1 refl (true_mark s _ c.1) i e) (w.3 i);
    nodes_at = λ h c u i e. let w = node_asked f pass s h in le_trans (met _ w.1 refl (true_mark s _ c.1) u i e) (w.3 u i);
    exits_at = λ h c u i e. let w = exit_asked f pass s h in le_trans (met _ w.1 refl (true_mark s _ c.2) u i e) (w.4 u i);
  }

  -- Of the least key.
  abbrev L : ℕ
  L = least_key f t x s

  met_below : (a : Ask) → IsAsked a → 8 * rule_of a + 6 < L → meets x s a ≡ true
  met_below a h l = go (meets x s a) refl
    where
      go : (b : Bool) → meets x s a ≡ b → meets x s a ≡ true
      go true q = q
      go false q = absurd (omega (arith, key_broken x s a q, key_under f t x s a h))

  pub rules_kept : ((a : Ask) → IsAsked a → meets x s a ≡ true) → (q : ℕ) → Holds f s q
  rules_kept met q = met_holds q (λ a h e. met a h)

  pub rules_below : (q : ℕ) → 8 * q + 6 < L → Holds f s q
  rules_below q l = met_holds q (λ a h e. met_below a h (omega arith))

  -- there is no rule from 11 on
  pub rules_beyond : (q : ℕ) → 11 ≤ q → Holds f s q
  rules_beyond q l = met_holds q (λ a h e. absurd (omega (arith, rule_few f t x s h)))

  -- what has the least key
  pub record Lowest : Type 0 where
    pub asked : Ask
    pub is_asked : IsAsked asked
    pub shaped : Shaped x s asked
    pub key_is : L ≡ key_by x s asked

  pub lowest : L < no_key → Lowest
  lowest l = go (key_hit f t x s)
    where
      go : (L ≡ no_key) ⊎ ((a : Ask) × IsAsked a × (L ≡ key_by x s a)) → Lowest
      go (inl e) = absurd (omega arith)
      go (inr (a, h, e)) = record { asked = a; is_asked = h; shaped = key_shape x s a (omega arith); key_is = e }

  rule_is : (l : L < no_key) → rule_of (lowest l).asked ≡ L / 8
  rule_is l = let w = lowest l in omega (arith, w.key_is, w.shaped.key_is, w.shaped.within)

  type_is : (l : L < no_key) → (lowest l).shaped.grade ≡ L % 8
  type_is l = let w = lowest l in omega (arith, w.key_is, w.shaped.key_is, w.shaped.within)

  pub rule_broken : L < no_key → Holds f s (L / 8) → ⊥
  rule_broken l H =
      let w = lowest l in
      clash _ (named_met (asks_named f pass s w.is_asked) (subst (Holds f s) (sym (rule_is l)) H)) w.shaped.not_met

  pub type_lowest : L < no_key → LowestFailing (HoldsAt f s (L / 8)) (L % 8)
  type_lowest l = record { within = omega (arith, type_is l, (lowest l).shaped.within); below = below; fails = fails }
    where
      below : (k : ℕ) → k < L % 8 → HoldsAt f s (L / 8) k
      below k b =
          met_holds_at (L / 8) k
          (λ a h e m. elim (dec_lt (fails_in x s a) 6) [
            | yes d ↦ (fails_at a).below k (omega (arith, key_type x s a m d, key_under f t x s a h))
            | no d ↦ (fails_at a).below k (omega (arith, type_is l, (lowest l).shaped.within))
          ])

      fails : L % 8 < 6 → HoldsAt f s (L / 8) (L % 8) → ⊥
      fails b H =
          let w = lowest l in
          let g = w.shaped.by_type (omega (arith, type_is l)) in
          (fails_at w.asked).fails (omega (arith, g.1, type_is l))
          (named_met_at (asks_named f pass s w.is_asked) g.0 (fails_in x s w.asked) (subst (HoldsAt f s (rule_of w.asked)) (omega (arith, g.1, type_is l)) (subst (λ r. HoldsAt f s r (L % 8)) (sym (rule_is l)) H)))
