-- What is read of a block depends on its words alone.
use Prim.Native.Nat.{ℕ, ◌+◌, ◌*◌, ◌<◌}
use mathlib.Core.Path.{◌≡◌, refl}
use mathlib.Core.Bool.{Bool, true, false, cond}
use mathlib.Core.List.{List, [], ◌∷◌}
use lib.Dec.{ltb}
use borrow.Author.Tests.{ltb-true}
use native.Mathlib.Nat.{le_refl}
use native.Mathlib.Omega.{arith}
use Rattle.sheet_layout.specs.Layout.{stock_size, effect_size}
use Rattle.effect.specs.Six.{six}
use Rattle.sheet.specs.Read.{sheet_word, SameWords, mark_at, column, stock_at, effect_at}

pub six_same : {f g : ℕ → ℕ} → ((k : ℕ) → k < 6 → f k ≡ g k) → six f ≡ six g
six_same h =
    λ i. h 0 (omega arith) i ∷ h 1 (omega arith) i ∷ h 2 (omega arith) i ∷ h 3 (omega arith) i ∷ h 4 (omega arith) i ∷ h 5 (omega arith) i ∷ []

module _ (s r : List ℕ) (w : ℕ) where
  pub mark_same : {n : ℕ} → 0 < n → SameWords s r w n → mark_at s w ≡ mark_at r w
  mark_same {n} l h = h w (le_refl w) (omega arith)

  module _ (t : ℕ) where
    -- one column of a block of m words
    column_same : (n j none m : ℕ) → ((k : ℕ) → k < t → j + n * k < m) → SameWords s r w m → six (column s t w n j none) ≡ six (column r t w n j none)
    column_same n j none m inside h = six_same (λ k l. at k (ltb k t) refl)
      where
        at : (k : ℕ) (b : Bool) → ltb k t ≡ b → cond b (sheet_word s (w + (j + n * k))) none ≡ cond b (sheet_word r (w + (j + n * k))) none
        at k false q = refl
        at k true q = let l : j + n * k < m = inside k (ltb-true k t q) in h (w + (j + n * k)) (omega arith) (omega arith)

    pub stock_same : SameWords s r w (stock_size t) → stock_at s t w ≡ stock_at r t w
    unfolding stock_at
    stock_same h =
        let a = column_same 2 1 0 (stock_size t) (λ k l. omega arith) h in
        let b = column_same 2 2 0 (stock_size t) (λ k l. omega arith) h in
        λ i. record { rights = a i; counts = b i }

    pub effect_same : SameWords s r w (effect_size t) → effect_at s t w ≡ effect_at r t w
    unfolding effect_at
    effect_same h =
        let a = column_same 4 1 0 (effect_size t) (λ k l. omega arith) h in
        let b = column_same 4 2 65535 (effect_size t) (λ k l. omega arith) h in
        let c = column_same 4 3 255 (effect_size t) (λ k l. omega arith) h in
        let d = column_same 4 4 0 (effect_size t) (λ k l. omega arith) h in
        λ i. record { keepin = a i; keepmax = b i; cap = c i; drop = d i }
