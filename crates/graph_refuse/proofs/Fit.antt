-- What each row that is not refused ensures, table by table.
use mathlib.Core.Path.{◌≡◌, refl, subst}
use mathlib.Core.Bool.{Bool, true, false, not, ◌&&◌}
use mathlib.Core.Logic.{◌⊎◌, inl, inr}
use mathlib.Core.List.{List}
use Prim.Native.Nat.{ℕ, ◌+◌, ◌-◌, ◌<◌, ◌≤◌}
use lib.ListN.{length}
use native.Mathlib.Omega.{arith}
use lib.Dec.{leb, eqb}
use borrow.Author.Tests.{leb-false, ltb-true, ltb-false, eqb-false, eqb-true, not-false, eq-eqb, ne_eqb}
use Rattle.words.specs.Lowest.{lowest}
use Rattle.words.proofs.Lowest.{NoneBelow, is_lowest}
use Rattle.words.proofs.Tests.{neither, not_both, or_l, or_r, not_zero_lem}
use Rattle.graph_tables.specs.declared.Tables.{Tables}
use Rattle.graph_tables.specs.Trailer.{trailer}
use Rattle.graph_tables.specs.Kinds.{grant_kind, draw_kind, call_kind, return_kind, throw_kind}
use Rattle.graph_tables.specs.Fields.{entry_of, node_method, node_kind, node_number, node_count, flow_from, flow_to, call_node, call_method, parent_of, catch_from, catch_exception, catch_to, opening_count}
use Rattle.graph_tables.specs.Family.{Nearest}
use Rattle.graph_tables.proofs.Family.{nearest_is, is_nearest}
use Rattle.graph_refuse.specs.Bad.{not_above, flow_row, call_row, catch_row, fewest, most, count_bad, length_bad, entry_bad, out_of_range, node_bad, flow_bad, call_bad, parent_bad, kin, throws_other, catch_bad, uncalled, opening_bad}
use Rattle.graph_refuse.proofs.Order.{pair_rises, triple_rises, Rises, none_twice}

rises : (row : ℕ → List ℕ) (k : ℕ) → not_above row k ≡ false → Rises row k
unfolding not_above
rises row k h z = not-false _ (not_both (not (eqb k 0)) _ h (simp (ne_eqb k 0 z)))

module _ (f : List ℕ) (t : Tables) where
  -- c is the kind e or an ancestor of it
  abbrev pub Kin : ℕ → ℕ → Type 0
  Kin e c = Nearest f t (λ a. a ≡ c) e c

  -- which is what the test says
  pub kin_says : (e c : ℕ) → kin f t e c ≡ true → Kin e c
  unfolding kin
  kin_says e c h = subst (Nearest f t (λ a. a ≡ c) e) (eqb-true _ c h) (is_nearest f t (λ a. eqb a c) e (λ a l. eqb-true a c) (λ a l. eqb-false a c) e (omega arith) h)

  pub says_kin : (e c : ℕ) → Kin e c → kin f t e c ≡ true
  unfolding kin
  says_kin e c r = eq-eqb _ c (nearest_is f t (λ a. eqb a c) e (λ a l. eqb-true a c) (λ a l. eqb-false a c) (omega arith) r)

  own_kin : (n exception : ℕ) → throws_other f t n exception ≡ false → node_kind f t n ≡ throw_kind → Kin (node_number f t n) exception
  unfolding throws_other
  own_kin n exception h e =
      let neither-kind = not (eqb (node_kind f t n) call_kind) && not (eqb (node_kind f t n) throw_kind) in
      kin_says _ _ (not-false _ (not_both _ _ (neither neither-kind _ h).1 (eq-eqb _ _ e)))

  pub record EntryFit (m : ℕ) : Type 0 where
    pub inside : entry_of f m < t.nodes
    pub own : node_method f t (entry_of f m) ≡ m

  pub record NodeFit (n : ℕ) : Type 0 where
    pub method : node_method f t n < t.methods
    pub kind : node_kind f t n ≤ throw_kind
    pub grant_type : node_kind f t n ≡ grant_kind → node_number f t n < t.types
    pub draw_type : node_kind f t n ≡ draw_kind → node_number f t n < t.types
    pub exception : node_kind f t n ≡ throw_kind → node_number f t n ≤ 7
    pub repeats : node_kind f t n ≡ call_kind → 0 < node_count f t n

  pub record FlowFit (k : ℕ) : Type 0 where
    pub from : flow_from f t k < t.nodes
    pub to : flow_to f t k < t.nodes
    pub no_return : node_kind f t (flow_from f t k) ≡ return_kind → ⊥
    pub no_throw : node_kind f t (flow_from f t k) ≡ throw_kind → ⊥
    pub one_method : node_method f t (flow_from f t k) ≡ node_method f t (flow_to f t k)
    pub higher : Rises (flow_row f t) k

  pub record CallFit (k : ℕ) : Type 0 where
    pub node : call_node f t k < t.nodes
    pub kind : node_kind f t (call_node f t k) ≡ call_kind
    pub method : call_method f t k < t.methods
    pub higher : Rises (call_row f t) k

  pub record CatchFit (k : ℕ) : Type 0 where
    pub from : catch_from f t k < t.nodes
    pub to : catch_to f t k < t.nodes
    pub exception : catch_exception f t k ≤ 7
    pub own : node_kind f t (catch_from f t k) ≡ throw_kind → Kin (node_number f t (catch_from f t k)) (catch_exception f t k)
    pub one_method : node_method f t (catch_from f t k) ≡ node_method f t (catch_to f t k)
    pub higher : Rises (catch_row f t) k

module _ (f : List ℕ) (t : Tables) where
  pub count_fit : (i : ℕ) → count_bad f i ≡ false → (fewest i ≤ trailer f i) × (trailer f i ≤ most i)
  unfolding count_bad
  count_fit i h =
      let w = neither _ _ h in
      (ltb-false (trailer f i) (fewest i) w.0, ltb-false (most i) (trailer f i) w.1)

  pub entry_fit : (m : ℕ) → entry_bad f t m ≡ false → EntryFit f t m
  unfolding entry_bad
  entry_fit m h =
      let w = neither _ _ h in
      record { inside = leb-false _ _ w.0; own = eqb-true _ _ (not-false _ w.1) }

  pub node_fit : (n : ℕ) → node_bad f t n ≡ false → NodeFit f t n
  unfolding node_bad out_of_range
  node_fit n h =
      let w = neither _ _ h in
      let w5 = neither _ _ w.0 in
      let w4 = neither _ _ w5.0 in
      let w3 = neither _ _ w4.0 in
      let w2 = neither _ _ w3.0 in
      record {
        method = leb-false _ _ w2.0;
        kind = ltb-false _ _ w2.1;
        grant_type = λ e. leb-false _ _ (not_both _ _ w3.1 (or_l _ _ (eq-eqb _ _ e)));
        draw_type = λ e. leb-false _ _ (not_both _ _ w3.1 (or_r (eqb (node_kind f t n) grant_kind) _ (eq-eqb _ _ e)));
        exception = λ e. ltb-false _ _ (not_both _ _ w4.1 (eq-eqb _ _ e));
        repeats = λ e. not_zero_lem _ (not_both _ _ w5.1 (eq-eqb _ _ e));
      }

  pub flow_fit : (k : ℕ) → flow_bad f t k ≡ false → FlowFit f t k
  unfolding flow_bad
  flow_fit k h =
      let w6 = neither _ _ h in
      let w5 = neither _ _ w6.0 in
      let w4 = neither _ _ w5.0 in
      let w3 = neither _ _ w4.0 in
      let w2 = neither _ _ w3.0 in
      record {
        from = leb-false _ _ w2.0;
        to = leb-false _ _ w2.1;
        no_return = eqb-false _ _ w3.1;
        no_throw = eqb-false _ _ w4.1;
        one_method = eqb-true _ _ (not-false _ w5.1);
        higher = rises (flow_row f t) k w6.1;
      }

  pub call_fit : (k : ℕ) → call_bad f t k ≡ false → CallFit f t k
  unfolding call_bad
  call_fit k h =
      let w4 = neither _ _ h in
      let w3 = neither _ _ w4.0 in
      let w2 = neither _ _ w3.0 in
      record {
        node = leb-false _ _ w2.0;
        kind = eqb-true _ _ (not-false _ w2.1);
        method = leb-false _ _ w3.1;
        higher = rises (call_row f t) k w4.1;
      }

  pub parent_fit : (e : ℕ) → parent_bad f t e ≡ false → (parent_of f t e < e) ⊎ (parent_of f t e ≡ 255)
  unfolding parent_bad
  parent_fit e h = go (leb e (parent_of f t e)) refl
    where
      go : (b : Bool) → leb e (parent_of f t e) ≡ b → (parent_of f t e < e) ⊎ (parent_of f t e ≡ 255)
      go true q = inr (eqb-true _ 255 (not-false _ (not_both _ _ h q)))
      go false q = inl (leb-false e (parent_of f t e) q)

  pub catch_fit : (k : ℕ) → catch_bad f t k ≡ false → CatchFit f t k
  unfolding catch_bad
  catch_fit k h =
      let w6 = neither _ _ h in
      let w5 = neither _ _ w6.0 in
      let w4 = neither _ _ w5.0 in
      let w3 = neither _ _ w4.0 in
      let w2 = neither _ _ w3.0 in
      record {
        from = leb-false _ _ w2.0;
        to = leb-false _ _ w2.1;
        exception = ltb-false _ _ w3.1;
        own = own_kin f t _ _ w4.1;
        one_method = eqb-true _ _ (not-false _ w5.1);
        higher = rises (catch_row f t) k w6.1;
      }

  pub opening_fit : (k : ℕ) → opening_bad f t k ≡ false → opening_count f t k ≤ 255
  unfolding opening_bad
  opening_fit k h = ltb-false _ _ h

  pub length_fit : length_bad f t ≡ false → (trailer f 6 ≡ t.end) × (length f ≡ trailer f 6 + 14)
  unfolding length_bad
  length_fit h =
      let w = neither _ _ h in
      (eqb-true _ _ (not-false _ w.0), eqb-true _ _ (not-false _ w.1))

  -- a call has a row that names it
  pub call_named : (n : ℕ) → uncalled f t n ≡ false → node_kind f t n ≡ call_kind → (k : ℕ) × (k < t.calls) × (call_node f t k ≡ n)
  unfolding uncalled
  call_named n h e =
      let names : ℕ → Bool = λ k. eqb (call_node f t k) n in
      let l = ltb-true _ _ (not-false _ (not_both _ _ h (eq-eqb _ _ e))) in
      (lowest names t.calls, l, eqb-true _ _ ((is_lowest names t.calls).found l))

  -- from the row before to this one, where there is one
  pub flow_rises : (k : ℕ) → flow_bad f t k ≡ false → (k ≡ 0 → ⊥) → flow_from f t (k - 1) ≤ flow_from f t k
  unfolding flow_row
  flow_rises k h z = pair_rises _ (flow_to f t k) _ (flow_to f t (k - 1)) ((flow_fit k h).higher z)

  pub call_rises : (k : ℕ) → call_bad f t k ≡ false → (k ≡ 0 → ⊥) → call_node f t (k - 1) ≤ call_node f t k
  unfolding call_row
  call_rises k h z = pair_rises _ (call_method f t k) _ (call_method f t (k - 1)) ((call_fit k h).higher z)

  pub catch_rises : (k : ℕ) → catch_bad f t k ≡ false → (k ≡ 0 → ⊥) → (catch_from f t (k - 1) < catch_from f t k) ⊎ ((catch_from f t k ≡ catch_from f t (k - 1)) × (catch_exception f t (k - 1) ≤ catch_exception f t k))
  unfolding catch_row
  catch_rises k h z = triple_rises _ _ (catch_to f t k) _ _ (catch_to f t (k - 1)) ((catch_fit k h).higher z)

  -- no row comes twice
  pub flow_once : (n : ℕ) → NoneBelow (flow_bad f t) n → (i k : ℕ) → i < k → k < n → flow_row f t i ≡ flow_row f t k → ⊥
  flow_once n h = none_twice (flow_row f t) n (λ k l. (flow_fit k (h k l)).higher)

  pub call_once : (n : ℕ) → NoneBelow (call_bad f t) n → (i k : ℕ) → i < k → k < n → call_row f t i ≡ call_row f t k → ⊥
  call_once n h = none_twice (call_row f t) n (λ k l. (call_fit k (h k l)).higher)

  pub catch_once : (n : ℕ) → NoneBelow (catch_bad f t) n → (i k : ℕ) → i < k → k < n → catch_row f t i ≡ catch_row f t k → ⊥
  catch_once n h = none_twice (catch_row f t) n (λ k l. (catch_fit k (h k l)).higher)
