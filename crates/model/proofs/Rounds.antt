-- The lowest of some rounds is at most each of them, and at each coordinate it is one of them. So to be at most all is to be at most the lowest.
use mathlib.Core.Path.{◌≡◌, refl, sym, ◌∙◌}
use mathlib.Core.Logic.{◌⊎◌, inl, inr}
use mathlib.Core.Bool.{Bool, true, false}
use Prim.Native.Nat.{ℕ, zero, suc, ◌-◌, ◌≤◌, ◌<◌, min}
use native.Mathlib.Nat.{le_of_eq}
use native.Mathlib.Decide.{dec_le}
use native.Mathlib.Omega.{arith}
use Rattle.model.specs.Rules.{Effects, AtMost, times}
use Rattle.model.specs.Rounds.{lowest_rounds, whole_rounds, earlier_rounds}
use Rattle.model.proofs.Setting.{Laws, apply_same}

module _ (W : Effects) (L : Laws W) where
  open W use {Stock, Effect, Coord, at, apply, nothing, then, both}
  open L use {apply_mono, apply_nothing, apply_then, apply_both}

  module _ (x : Effect) where
    pub times_next : (k : ℕ) (i : Coord) (s : Stock) → at i (apply (times W (suc k) x) s) ≡ at i (apply x (apply (times W k x) s))
    unfolding times
    times_next k i s = apply_then (times W k x) x i s

    times_once : (i : Coord) (s : Stock) → at i (apply (times W 1 x) s) ≡ at i (apply x s)
    unfolding times
    times_once i s = times_next 0 i s ∙ apply_same W L x i (apply nothing s) s (apply_nothing i s)

    lowest_next : (j : ℕ) (i : Coord) (s : Stock) → at i (apply (lowest_rounds W x (suc j)) s) ≡ min (at i (apply x s)) (at i (apply x (apply (lowest_rounds W x j) s)))
    unfolding lowest_rounds
    lowest_next j i s =
        let e = apply_then (lowest_rounds W x j) x i s in
        omega (arith, apply_both x (then (lowest_rounds W x j) x) i s, e)

    pub lowest_under : (j k : ℕ) → k ≤ j → (i : Coord) (s : Stock) → at i (apply (lowest_rounds W x j) s) ≤ at i (apply (times W (suc k) x) s)
    unfolding lowest_rounds
    lowest_under zero zero h i s = le_of_eq (sym (times_once i s))
    lowest_under zero (suc k) h i s = absurd (omega arith)
    lowest_under (suc j) zero h i s = omega (arith, lowest_next j i s, times_once i s)
    lowest_under (suc j) (suc k) h i s =
        let ih = lowest_under j k (omega arith) i s in
        omega (arith, lowest_next j i s, times_next (suc k) i s, apply_mono x i (apply (lowest_rounds W x j) s) (apply (times W (suc k) x) s) ih)

    pub lowest_hit : (j : ℕ) (i : Coord) (s : Stock) → (k : ℕ) × (k ≤ j) × (at i (apply (times W (suc k) x) s) ≤ at i (apply (lowest_rounds W x j) s))
    unfolding lowest_rounds
    lowest_hit zero i s = (0, omega arith, le_of_eq (times_once i s))
    lowest_hit (suc j) i s =
        let h = lowest_hit j i s in
        let y = apply (lowest_rounds W x j) s in
        elim (dec_le (at i (apply x s)) (at i (apply x y))) [
          | yes l ↦ (0, omega arith, omega (arith, lowest_next j i s, times_once i s))
          | no l ↦ (suc h.0, omega (arith, h.1), omega (arith, lowest_next j i s, times_next (suc h.0) i s, apply_mono x i (apply (times W (suc h.0) x) s) y h.2))
        ]

  -- The call's effect, then k rounds: as the rules write it.
  module _ (call x : Effect) where
    abbrev pub taken : ℕ → Effect
    taken k = then call (times W k x)

    taken_at : (k : ℕ) (i : Coord) (s : Stock) → at i (apply (taken k) s) ≡ at i (apply (times W k x) (apply call s))
    taken_at k i s = apply_then call (times W k x) i s

    taken_none : (i : Coord) (s : Stock) → at i (apply (taken 0) s) ≡ at i (apply call s)
    unfolding times
    taken_none i s = taken_at 0 i s ∙ apply_nothing i (apply call s)

    pub whole_under : (r k : ℕ) → 1 ≤ k → k ≤ r → AtMost W (whole_rounds W call x r) (taken k)
    unfolding whole_rounds
    whole_under r zero a b s i = absurd (omega arith)
    whole_under r (suc k) a b s i =
        omega (arith, apply_then call (lowest_rounds W x (r - 1)) i s, taken_at (suc k) i s, lowest_under x (r - 1) k (omega arith) i (apply call s))

    pub whole_hit : (r : ℕ) → 1 ≤ r → (i : Coord) (s : Stock) → (k : ℕ) × (1 ≤ k) × (k ≤ r) × (at i (apply (taken k) s) ≤ at i (apply (whole_rounds W call x r) s))
    unfolding whole_rounds
    whole_hit r h i s =
        let p = lowest_hit x (r - 1) i (apply call s) in
        (suc p.0, omega arith, omega (arith, p.1), omega (arith, apply_then call (lowest_rounds W x (r - 1)) i s, taken_at (suc p.0) i s, p.2))

    -- j rounds can come before one: none, or fewer than r of them if exit 0 is marked
    abbrev pub Before : Bool → ℕ → ℕ → Type 0
    Before marked r j = (j < r) × ((j ≡ 0) ⊎ (marked ≡ true))

    both_at : (r : ℕ) (i : Coord) (s : Stock) → at i (apply (both call (then call (lowest_rounds W x r))) s) ≡ min (at i (apply call s)) (at i (apply (lowest_rounds W x r) (apply call s)))
    both_at r i s =
        let e = apply_then call (lowest_rounds W x r) i s in
        omega (arith, apply_both call (then call (lowest_rounds W x r)) i s, e)

    pub earlier_under : (marked : Bool) (r j : ℕ) → Before marked r j → AtMost W (earlier_rounds W call marked x r) (taken j)
    unfolding earlier_rounds
    earlier_under marked zero j h s i = absurd (omega (arith, h.0))
    earlier_under marked (suc zero) zero h s i = le_of_eq (sym (taken_none i s))
    earlier_under marked (suc zero) (suc j) h s i = absurd (omega (arith, h.0))
    earlier_under false (suc (suc r)) zero h s i = le_of_eq (sym (taken_none i s))
    earlier_under false (suc (suc r)) (suc j) (l, inl e) s i = absurd (omega arith)
    earlier_under false (suc (suc r)) (suc j) (l, inr e) s i = let z : ◌≡◌ {A = ℕ} 0 1 = cc in absurd (omega arith)
    earlier_under true (suc (suc r)) zero h s i = omega (arith, both_at r i s, taken_none i s)
    earlier_under true (suc (suc r)) (suc j) h s i = omega (arith, both_at r i s, taken_at (suc j) i s, lowest_under x r j (omega (arith, h.0)) i (apply call s))

    pub earlier_hit : (marked : Bool) (r : ℕ) → 1 ≤ r → (i : Coord) (s : Stock) → (j : ℕ) × Before marked r j × (at i (apply (taken j) s) ≤ at i (apply (earlier_rounds W call marked x r) s))
    unfolding earlier_rounds
    earlier_hit marked zero h i s = absurd (omega arith)
    earlier_hit marked (suc zero) h i s = (0, (omega arith, inl refl), le_of_eq (taken_none i s))
    earlier_hit false (suc (suc r)) h i s = (0, (omega arith, inl refl), le_of_eq (taken_none i s))
    earlier_hit true (suc (suc r)) h i s =
        let p = lowest_hit x r i (apply call s) in
        elim (dec_le (at i (apply call s)) (at i (apply (lowest_rounds W x r) (apply call s)))) [
          | yes l ↦ (0, (omega arith, inl refl), omega (arith, both_at r i s, taken_none i s))
          | no l ↦ (suc p.0, (omega (arith, p.1), inr refl), omega (arith, both_at r i s, taken_at (suc p.0) i s, p.2))
        ]
