-- The least of the numbers that rows give.
use Rattle.std.specs.Prelude.{ℕ, min}
use Rattle.words.specs.Turn.{in_turn}

-- the least of `top` and the numbers p gives below n
abbrev pub least_of : ℕ → (ℕ → ℕ) → ℕ → ℕ
least_of top p n = in_turn (λ k least. min least (p k)) 0 n top
