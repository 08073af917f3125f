-- The chain of products by halving the exponent: its last product is the plain power, each member is the "then" of two before it, and it
-- is as long as the exponent's digits say.
use Prim.Native.Nat.{ℕ, zero, suc, ◌+◌, ◌-◌, ◌/◌, ◌%◌, ◌^◌, ◌≤◌, ◌<◌}
use mathlib.Core.Path.{◌≡◌, refl, sym, ap, ◌∙◌}
use mathlib.Core.Bool.{Bool, true, false}
use mathlib.Core.List.{List, [], ◌∷◌}
use native.Mathlib.Omega.{arith}
use native.Mathlib.Nat.{pow-suc}
use native.Mathlib.Decide.{dec_lt}
use borrow.Author.Tests.{eqb-true, eqb-false}
use lib.ListN.{length}
use lib.Dec.{eqb}
use lib.Count.{ones, ones_step, ones-ones}
use Rattle.effect.specs.declared.Effect.{Effect}
use Rattle.effect.specs.Whole.{then_of}
use Rattle.effect.proofs.Laws.{then_assoc}
use Rattle.rule_rounds.specs.Chain.{once_or_not, last_of, digit_on, power_in, power_chain, chain_of, Factor, is_once_or_not, the_exit, last, Formed, none, next}
use Rattle.rule_rounds.proofs.Once.{power}

module _ (y : Effect) where
  in_none : (d e : ℕ) → e < 2 → power_in d y e ≡ []
  unfolding power_in
  in_none zero e h = refl
  in_none (suc d) zero h = refl
  in_none (suc d) (suc zero) h = refl
  in_none (suc d) (suc (suc e)) h = absurd (omega arith)

  enough : (d c e : ℕ) → e ≤ d → e ≤ c → power_in d y e ≡ power_in c y e
  unfolding power_in
  enough zero c e h g = sym (in_none c e (omega arith))
  enough (suc d) zero e h g = in_none (suc d) e (omega arith)
  enough (suc d) (suc c) zero h g = refl
  enough (suc d) (suc c) (suc zero) h g = refl
  enough (suc d) (suc c) (suc (suc e)) h g = ap (digit_on y (eqb (suc (suc e) % 2) 1)) (enough d c (suc (suc e) / 2) (omega arith) (omega arith))

  pub chain_none : (e : ℕ) → e < 2 → power_chain y e ≡ []
  unfolding power_chain
  chain_none e h = in_none e e h

  pub chain_half : (e : ℕ) → 2 ≤ e → power_chain y e ≡ digit_on y (eqb (e % 2) 1) (power_chain y (e / 2))
  unfolding power_chain power_in
  chain_half zero h = absurd (omega arith)
  chain_half (suc zero) h = absurd (omega arith)
  chain_half (suc (suc e)) h =
      ap (digit_on y (eqb (suc (suc e) % 2) 1)) (enough (suc e) (suc (suc e) / 2) (suc (suc e) / 2) (omega arith) (omega arith))

  -- squaring is repetition, by associativity alone
  powers : (m n : ℕ) → then_of (power y m) (power y n) ≡ power y (suc (m + n))
  unfolding power
  powers m zero = let e : m ≡ m + 0 = omega arith in ap (λ k. power y (suc k)) e
  powers m (suc n) =
      let e : suc (suc (m + n)) ≡ suc (m + suc n) = omega arith in
      sym (then_assoc (power y m) (power y n) y) ∙ ap (λ a. then_of a y) (powers m n) ∙ ap (power y) e

  digit_last : (e : ℕ) (l : List Effect) (b : Bool) → b ≡ eqb (e % 2) 1 → 2 ≤ e → last_of y l ≡ power y (e / 2 - 1) → last_of y (digit_on y b l) ≡ power y (e - 1)
  unfolding power digit_on last_of
  digit_last e l true h m p =
      let d = eqb-true (e % 2) 1 (sym h) in
      let n = e / 2 - 1 in
      let k : suc (suc (n + n)) ≡ e - 1 = omega arith in
      ap (λ a. then_of (then_of a a) y) p ∙ ap (λ a. then_of a y) (powers n n) ∙ ap (power y) k
  digit_last e l false h m p =
      let d = eqb-false (e % 2) 1 (sym h) in
      let n = e / 2 - 1 in
      let k : suc (n + n) ≡ e - 1 = omega arith in
      ap (λ a. then_of a a) p ∙ powers n n ∙ ap (power y) k

  pub chain_last : (k e : ℕ) → e ≤ k → 0 < e → last_of y (power_chain y e) ≡ power y (e - 1)
  unfolding power last_of
  chain_last zero e h p = absurd (omega arith)
  chain_last (suc k) e h p = elim (dec_lt e 2) [
    | yes l ↦ let z : 0 ≡ e - 1 = omega arith in ap (last_of y) (chain_none e l) ∙ ap (power y) z
    | no l ↦
        ap (last_of y) (chain_half e (omega arith))
        ∙ digit_last e (power_chain y (e / 2)) (eqb (e % 2) 1) refl (omega arith) (chain_last k (e / 2) (omega arith) (omega arith))
  ]

  digit_length : (e : ℕ) (l : List Effect) (b : Bool) → b ≡ eqb (e % 2) 1 → length (digit_on y b l) ≡ length l + 1 + e % 2
  unfolding digit_on
  digit_length e l true h = let d = eqb-true (e % 2) 1 (sym h) in omega arith
  digit_length e l false h = let d = eqb-false (e % 2) 1 (sym h) in omega arith

  -- k is the place of the highest digit
  pub chain_length : (k e : ℕ) → 2 ^ k ≤ e → e < 2 ^ suc k → suc (length (power_chain y e)) ≡ k + ones e
  chain_length zero e h g =
      let z : e ≡ 1 = omega arith in omega (arith, ap length (chain_none e (omega arith)), ap ones z, ones-ones 1)
  chain_length (suc k) e h g =
      let p = pow-suc 2 k in
      let q = pow-suc 2 (suc k) in
      let ih = chain_length k (e / 2) (omega arith) (omega arith) in
      omega (arith, ones_step e, ih, ap length (chain_half e (omega arith)), digit_length e (power_chain y (e / 2)) (eqb (e % 2) 1) refl)

-- the theorem that the length of a chain counts products
module _ (x : Effect) where
  abbrev y : Effect
  y = once_or_not x

  last_factor : (l : List Effect) → Factor x l (last_of y l)
  unfolding last_of
  last_factor [] = is_once_or_not
  last_factor (a ∷ l) = last

  digit_formed : (b : Bool) (l : List Effect) → Formed x l → Formed x (digit_on y b l)
  unfolding digit_on
  digit_formed false l f = next (last_factor l) (last_factor l) f
  digit_formed true l f = next last is_once_or_not (next (last_factor l) (last_factor l) f)

  in_formed : (d e : ℕ) → Formed x (power_in d y e)
  unfolding power_in
  in_formed zero e = none
  in_formed (suc d) zero = none
  in_formed (suc d) (suc zero) = none
  in_formed (suc d) (suc (suc e)) = digit_formed (eqb (suc (suc e) % 2) 1) (power_in d y (suc (suc e) / 2)) (in_formed d (suc (suc e) / 2))

  pub chain_formed : (r : ℕ) → Formed x (chain_of x r)
  unfolding chain_of power_chain
  chain_formed zero = none
  chain_formed (suc zero) = none
  chain_formed (suc (suc r)) = next (last_factor (power_chain y (suc r))) the_exit (in_formed (suc r) (suc r))
