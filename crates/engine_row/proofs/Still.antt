-- What is met is not written: of a walk that wrote nothing, the sheet is still what it was, and everything asked was met.
--   stay, hit, step: for `sheet_shows` and its parts; lowers_met
use mathlib.Core.Path.{◌≡◌, refl}
use mathlib.Core.Logic.{◌⊎◌, inl, inr}
use mathlib.Core.Bool.{Bool, true, false, ◌||◌}
use mathlib.Core.List.{List}
use Prim.Native.Nat.{ℕ}
use Rattle.sheet_layout.specs.declared.Shape.{Shape}
use Rattle.rule_ask.specs.Walk.{Ask, of_effect, of_stock, meets}
use Rattle.engine_lower.specs.Lower.{effect_to, stock_to}
use Rattle.engine_row.specs.Lowers.{State, sheet_of, wrote_of, lowered_to, lowers}

module _ (x : Shape) (s : List ℕ) where
  -- something was written, or the sheet is still s
  abbrev pub Wrote : State → Type 0
  Wrote z = wrote_of z ≡ true

  abbrev pub Still : State → Type 0
  Still z = (sheet_of z ≡ s) × (wrote_of z ≡ false)

  pub met_stays : (a : Ask) → meets x s a ≡ true → lowered_to x s a ≡ s
  unfolding effect_to stock_to
  met_stays (of_effect r w e) m = rw m refl
  met_stays (of_stock r w h) m = rw m refl

  pub lowers_met : (a : Ask) (wrote : Bool) → meets x s a ≡ true → (s, wrote) ≡ lowers x a (s, wrote)
  unfolding lowers
  lowers_met a wrote m = rw (met_stays a m, m) (λ i. (s, go wrote i))
    where
      go : (b : Bool) → b ≡ (b || false)
      go true = refl
      go false = refl

  pub stay : (a : Ask) (z : State) → Wrote z → Wrote (lowers x a z)
  unfolding lowers
  stay a z p = rw p refl

  -- what s does not meet is written
  pub hit : (a : Ask) → meets x s a ≡ false → (z : State) → Still z → Wrote (lowers x a z)
  unfolding lowers
  hit a m z q = rw (q.0, q.1, m) refl

  pub step : (a : Ask) (z : State) → Still z → Wrote (lowers x a z) ⊎ Still (lowers x a z)
  unfolding lowers
  step a z q = go (meets x s a) refl
    where
      go : (b : Bool) → meets x s a ≡ b → Wrote (lowers x a z) ⊎ Still (lowers x a z)
      go true m = inr (rw q.0 (met_stays a m), rw (q.0, q.1, m) refl)
      go false m = inl (hit a m z q)
