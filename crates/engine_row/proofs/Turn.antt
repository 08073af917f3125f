-- A loop over what is asked.
use Prim.Native.Nat.{ℕ, ◌+◌, ◌-◌, ◌≤◌, ◌<◌}
use mathlib.Core.Path.{◌≡◌, refl, ap, ◌∙◌}
use mathlib.Core.Bool.{Bool}
use mathlib.Core.List.{List}
use native.Mathlib.Omega.{arith}
use lib.ListN.{length}
use Rattle.words.specs.Turn.{in_turn}
use Rattle.words.proofs.Turn.{turn_more}
use Rattle.engine_row.specs.Lowers.{State}

-- it has come from a to j, on its way to b
pub record Turning (act : ℕ → State → State) (s₀ : List ℕ) (wrote₀ : Bool) (a b j : ℕ) (s : List ℕ) (wrote : Bool) : Type 0 where
  pub from : a ≤ j
  pub to : j - a ≤ b - a
  pub long : length s ≡ length s₀
  pub left : (s, wrote) ≡ in_turn act a (j - a) (s₀, wrote₀)

module _ (act : ℕ → State → State) (s₀ : List ℕ) (wrote₀ : Bool) (a b : ℕ) where
  pub turning_start : Turning act s₀ wrote₀ a b a s₀ wrote₀
  unfolding in_turn
  turning_start = let z : a - a ≡ 0 = omega arith in record { from = omega arith; to = omega arith; long = refl; left = rw z refl }

  pub turning_more : {j : ℕ} {s r : List ℕ} {wrote now : Bool} → Turning act s₀ wrote₀ a b j s wrote → j < b → length r ≡ length s → (r, now) ≡ act j (s, wrote)
      → Turning act s₀ wrote₀ a b (j + 1) r now
  turning_more g lt l e =
      record { from = omega (arith, g.from); to = omega (arith, g.from); long = l ∙ g.long; left = turn_more act a (s₀, wrote₀) g.from g.left e }

  pub turning_end : {j : ℕ} {s : List ℕ} {wrote : Bool} → Turning act s₀ wrote₀ a b j s wrote → b ≤ j → (s, wrote) ≡ in_turn act a (b - a) (s₀, wrote₀)
  turning_end {j} g h = let e : j - a ≡ b - a = omega (arith, g.from, g.to) in g.left ∙ ap (λ n. in_turn act a n (s₀, wrote₀)) e

-- the same from 0 on
pub turning_all : (act : ℕ → State → State) (s₀ : List ℕ) (wrote₀ : Bool) (b : ℕ) {j : ℕ} {s : List ℕ} {wrote : Bool} → Turning act s₀ wrote₀ 0 b j s wrote → b ≤ j
    → (s, wrote) ≡ in_turn act 0 b (s₀, wrote₀)
turning_all act s₀ wrote₀ b g h = let e : b - 0 ≡ b = omega arith in turning_end act s₀ wrote₀ 0 b g h ∙ ap (λ n. in_turn act 0 n (s₀, wrote₀)) e
