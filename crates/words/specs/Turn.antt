-- Steps taken in turn.
use Rattle.std.specs.Prelude.{ℕ, zero, suc, ◌+◌}

-- the n steps from a on, each on what the one before left
unfoldable pub in_turn : {A : Type 0} → (ℕ → A → A) → ℕ → ℕ → A → A
in_turn act a zero s = s
in_turn act a (suc n) s = act (a + n) (in_turn act a n s)
