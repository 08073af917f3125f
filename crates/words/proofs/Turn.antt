-- Steps in turn: a loop takes one more.
use Prim.Native.Nat.{ℕ, suc, ◌+◌, ◌-◌, ◌≤◌}
use mathlib.Core.Path.{◌≡◌, refl, sym, ◌∙◌}
use native.Mathlib.Nat.{zero-add}
use native.Mathlib.Numerals.{add-one}
use native.Mathlib.Omega.{arith}
use Rattle.words.specs.Turn.{in_turn}

-- a loop that has come from a to j takes step j
pub turn_more : {A : Type 0} (act : ℕ → A → A) (a : ℕ) {j : ℕ} (s : A) {r q : A} → a ≤ j → r ≡ in_turn act a (j - a) s → q ≡ act j r → q ≡ in_turn act a (j + 1 - a) s
unfolding in_turn
turn_more act a {j} s h e g =
    let n : j + 1 - a ≡ suc (j - a) = omega arith in
    let k : j ≡ a + (j - a) = omega arith in
    g ∙ (λ i. act (k i) (e i)) ∙ rw n refl

-- the same from 0 on
pub turn_next : {A : Type 0} (act : ℕ → A → A) {j : ℕ} (s : A) {r q : A} → r ≡ in_turn act 0 j s → q ≡ act j r → q ≡ in_turn act 0 (j + 1) s
unfolding in_turn
turn_next act {j} s e g = rw add-one (g ∙ (λ i. act (sym (zero-add j) i) (e i)))
