-- The lowest of some rounds is the last of them, and after a call that is the effect taken so many times.
use Prim.Native.Nat.{ℕ, zero, suc}
use mathlib.Core.Path.{◌≡◌, sym, ap, ◌∙◌}
use mathlib.Core.Bool.{true}
use Rattle.effect.specs.declared.Effect.{Effect}
use Rattle.effect.specs.Whole.{at_most_of, then_of, times_of}
use Rattle.effect.proofs.Laws.{then_normal, then_six, then_mono, then_assoc, both_comm, both_left, both_same, at_most_refl, at_most_trans}
use Rattle.effect.proofs.Again.{then_once, times_next, twice_below}
use Rattle.model.specs.Stocks.{permits}
use Rattle.model.specs.Rounds.{lowest_rounds}

module _ (x : Effect) where
  abbrev low : ℕ → Effect
  low n = lowest_rounds permits x n

  low_below : (n : ℕ) → at_most_of (low n) x ≡ true
  unfolding lowest_rounds
  low_below zero = at_most_refl x
  low_below (suc n) = both_left x (then_of (low n) x)

  low_next : (n : ℕ) → low (suc n) ≡ then_of (low n) x
  unfolding lowest_rounds
  low_next n =
      let a = then_of (low n) x in
      both_comm x a
      ∙ both_same a x (then_normal (low n) x) (then_six (low n) x)
      (at_most_trans a (then_of x x) x (then_mono (low n) x x x (low_below n) (at_most_refl x)) (twice_below x))

  module _ (call : Effect) where
    pub call_next : (n : ℕ) → then_of (then_of call (low n)) x ≡ then_of call (low (suc n))
    call_next n = then_assoc call (low n) x ∙ ap (then_of call) (sym (low_next n))

    pub call_times : (n : ℕ) → then_of call (times_of x (suc n)) ≡ then_of call (low n)
    unfolding lowest_rounds
    call_times zero = then_once call x
    call_times (suc n) =
        ap (then_of call) (sym (times_next x n)) ∙ sym (then_assoc call (times_of x (suc n)) x) ∙ ap (λ a. then_of a x) (call_times n) ∙ call_next n
