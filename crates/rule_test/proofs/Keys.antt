-- The least key: none that is asked has a lower one, and it is one that is asked or says that nothing is broken.
--   one ask       key_within, key_is, meets_is, key_broken, key_type, key_shape
--   all asks      key_under, key_hit
use Prim.Native.Nat.{ℕ, ◌+◌, ◌*◌, ◌≤◌, ◌<◌, min}
use mathlib.Core.Path.{◌≡◌, refl, sym, ap, ◌∙◌}
use mathlib.Core.Logic.{◌⊎◌, inl, inr, ⊎_elim}
use mathlib.Core.Bool.{Bool, true, false, ◌&&◌}
use mathlib.Core.List.{List}
use native.Mathlib.Omega.{arith}
use native.Mathlib.Decide.{dec_le}
use lib.Dec.{eqb}
use borrow.Author.Tests.{ne_eqb}
use Rattle.std.specs.Prelude.{is_some, IfSome, MatchOption, ⊤}
use Rattle.std.specs.declared.option.Option.{Option}
use Rattle.std.specs.declared.option.Option.TheVariants.{None, Some}
use Rattle.effect.specs.declared.Effect.{Effect}
use Rattle.effect.proofs.Failing.{fails_lowest, fails_none, stock_fails_lowest, stock_fails_none}
use Rattle.graph_tables.specs.declared.Tables.{Tables}
use Rattle.graph_tables.specs.declared.Table.{Table}
use Rattle.sheet_layout.specs.declared.Shape.{Shape}
use Rattle.sheet.specs.Read.{marked}
use Rattle.sheet.specs.Under.{effect_under, stock_under}
use Rattle.rule_ask.specs.declared.Gives.{Gives}
use Rattle.rule_ask.specs.Walk.{Ask, of_effect, of_stock, rule_of, block_of, meets}
use Rattle.rule_ask.proofs.Asks.{Asks, at_start, of_row, RowAsks, at_entry, along_flow, at_return, at_throw, of_call, CallAsks, after_call, into_call, from_call, LeavingAsks, to_handler, to_exit}
use Rattle.rule_ask.proofs.Keeps.{sheet_keeps}
use Rattle.rule_ask.proofs.Shows.{sheet_shows}
use Rattle.rule_test.specs.Keys.{fails_in, no_key, key_if, key_of, key_by, lessened, least_key}

module _ (x : Shape) (s : List ℕ) where
  fails_within : (a : Ask) → fails_in x s a ≤ 6
  fails_within (of_effect r w e) = (fails_lowest _ e).within
  fails_within (of_stock r w h) = (stock_fails_lowest _ h).within

  -- the key of a type that is looked for where the block is marked alone
  module _ (a : Ask) (P : ℕ → Type 0) (h : (k : ℕ) → P k → k ≡ fails_in x s a) where
    pub key_within : (r : Option ℕ) → IfSome r P → MatchOption r ⊤ (λ k. k ≤ 6)
    key_within None p = tt
    key_within (Some k) p = rw (h k p) (fails_within a)

    pub key_is : (r : Option ℕ) → IfSome r P → is_some r ≡ marked s (block_of a) → key_of (rule_of a) r ≡ key_by x s a
    key_is None p e = rw (sym e) refl
    key_is (Some k) p e = rw (sym e) (ap (key_if true (rule_of a)) (h k p))

  -- what is asked is met where the block is marked and fails at no type
  meets_is : (a : Ask) → meets x s a ≡ (marked s (block_of a) && eqb (fails_in x s a) 6)
  unfolding effect_under stock_under
  meets_is (of_effect r w e) = ap (λ b. marked s w && b) (sym (fails_none _ e))
  meets_is (of_stock r w h) = ap (λ b. marked s w && b) (sym (stock_fails_none _ h))

  broken_if : (m : Bool) (r k : ℕ) → k ≤ 6 → (m && eqb k 6) ≡ false → key_if m r k ≤ 8 * r + 6
  broken_if true r k l q = rw q (omega arith)
  broken_if false r k l q = omega arith

  pub key_broken : (a : Ask) → meets x s a ≡ false → key_by x s a ≤ 8 * rule_of a + 6
  key_broken a q = broken_if (marked s (block_of a)) (rule_of a) (fails_in x s a) (fails_within a) (sym (meets_is a) ∙ q)

  pub key_type : (a : Ask) → marked s (block_of a) ≡ true → fails_in x s a < 6 → key_by x s a ≡ 8 * rule_of a + fails_in x s a
  key_type a m l = rw (m, ne_eqb (fails_in x s a) 6 (λ e. omega arith)) refl

  -- a key that says that something is broken
  pub record Shaped (a : Ask) : Type 0 where
    pub not_met : meets x s a ≡ false
    pub grade : ℕ
    pub within : grade ≤ 6
    pub key_is : key_by x s a ≡ 8 * rule_of a + grade
    pub by_type : grade < 6 → (marked s (block_of a) ≡ true) × (fails_in x s a ≡ grade)

  pub key_shape : (a : Ask) → key_by x s a < no_key → Shaped a
  key_shape a l = go (marked s (block_of a)) refl (eqb (fails_in x s a) 6) refl
    where
      go : (m : Bool) → marked s (block_of a) ≡ m → (b : Bool) → eqb (fails_in x s a) 6 ≡ b → Shaped a
      go true p true q = absurd (omega (arith, met))
        where
          met : key_by x s a ≡ 88
          met = rw (p, q) refl
      go true p false q = record {
        not_met = meets_is a ∙ rw (p, q) refl;
        grade = fails_in x s a;
        within = fails_within a;
        key_is = rw (p, q) refl;
        by_type = λ k. (p, refl);
      }
      go false p b q = record { not_met = meets_is a ∙ rw p refl; grade = 6; within = omega arith; key_is = rw p refl; by_type = λ k. absurd (omega arith) }

module _ (f : List ℕ) (t : Tables) (x : Shape) (s : List ℕ) where
  pub key_under : (a : Ask) → Asks f t x s s a → least_key f t x s ≤ key_by x s a
  unfolding least_key lessened
  key_under a h =
      sheet_shows f t x (λ z. s) (lessened x s) s (λ z. z ≤ key_by x s a) (λ z. Unit {0}) (λ z q. refl) (λ b z p. omega arith) (λ b z q. inr tt) false h (λ z q. omega arith) no_key (inr tt)

  abbrev Hit : ℕ → Type 0
  Hit z = (z ≡ no_key) ⊎ ((a : Ask) × Asks f t x s s a × (z ≡ key_by x s a))

  pub key_hit : Hit (least_key f t x s)
  unfolding least_key lessened
  key_hit = sheet_keeps f t x (λ z. s) (lessened x s) Hit (λ w y z a p q h r. hit a h z r) false no_key (inl refl)
    where
      hit : (a : Ask) → Asks f t x s s a → (z : ℕ) → Hit z → Hit (min z (key_by x s a))
      hit a h z r = elim (dec_le z (key_by x s a)) [
        | yes l ↦
            let e : min z (key_by x s a) ≡ z = omega arith in
            ⊎_elim (λ u. inl (e ∙ u)) (λ u. inr (u.0, u.1, e ∙ u.2)) r
        | no l ↦ inr (a, h, omega arith)
      ]

  -- there are ten rules
  few_leaving : {c o n e : ℕ} {y : Effect} {a : Ask} → c ≤ 10 → o ≤ 10 → LeavingAsks f t x c o n e y a → rule_of a ≤ 10
  few_leaving p q (to_handler j u i) = p
  few_leaving p q (to_exit u) = q

  pub rule_few : {a : Ask} → Asks f t x s s a → rule_of a ≤ 10
  rule_few at_start = omega arith
  rule_few (of_row table k a l h) = row h
    where
      call : {c : Gives} {a : Ask} → CallAsks f t x c s a → rule_of a ≤ 10
      call (after_call j q i) = omega arith
      call (into_call q) = omega arith
      call (from_call e a small q g) = few_leaving (omega arith) (omega arith) g

      row : {table : Table} {k : ℕ} {a : Ask} → RowAsks f t x s s table k a → rule_of a ≤ 10
      row (at_entry m) = omega arith
      row (along_flow k q) = omega arith
      row (at_return n m q) = omega arith
      row (at_throw n a m q g h) = few_leaving (omega arith) (omega arith) h
      row (of_call k a q h) = call h
