-- The operations on stocks and effects: at each type, the formulas of `effect_one`. A type above 5 is never covered, and to grant
-- or draw it does nothing.
use Rattle.std.specs.Prelude.{ℕ, Bool, ◌&&◌, not, ltb, eqb}
use Rattle.words.specs.Lowest.{lowest}
use Rattle.effect_one.specs.Single.{idle}
use Rattle.effect_one.specs.Formulas.{normal_one, drawn, granted, then_one, times_one, both_one, at_most_one, held_at_most, lower_held, covers_held}
use Rattle.effect.specs.declared.Stock.{Stock}
use Rattle.effect.specs.declared.Effect.{Effect}
unfoldable pub use Rattle.effect.specs.Apply.{apply_of}
pub use Rattle.effect.specs.Apply.{one_if}
use Rattle.effect.specs.Six.{all_six, held_at, stock_of, one_at, effect_of}

unfoldable pub normal_of : Effect → Bool
normal_of e = all_six (λ k. normal_one (one_at e k))

unfoldable pub nothing_done : Effect
nothing_done = effect_of (λ k. idle)

unfoldable pub draw_of : ℕ → Effect
draw_of t = effect_of (λ k. one_if (eqb k t) drawn)

unfoldable pub grant_of : ℕ → ℕ → ℕ → Effect
grant_of t p m = effect_of (λ k. one_if (eqb k t) (granted p m))

unfoldable pub then_of : Effect → Effect → Effect
then_of a b = effect_of (λ k. then_one (one_at a k) (one_at b k))

unfoldable pub times_of : Effect → ℕ → Effect
times_of e n = effect_of (λ k. times_one (one_at e k) n)

unfoldable pub both_of : Effect → Effect → Effect
both_of a b = effect_of (λ k. both_one (one_at a k) (one_at b k))

unfoldable pub at_most_of : Effect → Effect → Bool
at_most_of a b = all_six (λ k. at_most_one (one_at a k) (one_at b k))

unfoldable pub stock_at_most_of : Stock → Stock → Bool
stock_at_most_of s t = all_six (λ k. held_at_most (held_at s k) (held_at t k))

-- the lowest type at which a test fails, and 6 where it fails at none
abbrev pub lowest_not : (ℕ → Bool) → ℕ
lowest_not f = lowest (λ k. not (f k)) 6

unfoldable pub fails_of : Effect → Effect → ℕ
fails_of a b = lowest_not (λ k. at_most_one (one_at a k) (one_at b k))

unfoldable pub stock_fails_of : Stock → Stock → ℕ
stock_fails_of s t = lowest_not (λ k. held_at_most (held_at s k) (held_at t k))

unfoldable pub lower_of : Stock → Stock → Stock
lower_of s t = stock_of (λ k. lower_held (held_at s k) (held_at t k))

unfoldable pub covers_of : Stock → ℕ → ℕ → Bool
covers_of s t p = ltb t 6 && covers_held (held_at s t) p
