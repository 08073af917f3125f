-- The lowest row for which a test holds.
use Rattle.std.specs.Prelude.{ℕ, zero, suc, Bool, cond, ltb}

-- the lowest number below n for which p holds, and n where there is none
unfoldable pub lowest : (ℕ → Bool) → ℕ → ℕ
lowest p zero = zero
lowest p (suc n) = cond (ltb (lowest p n) n) (lowest p n) (cond (p n) n (suc n))
