-- An effect taken many times, by squaring: the products formed on the way, and how many they are.
use Rattle.std.specs.Prelude.{ℕ, zero, suc, ◌+◌, ◌-◌, ◌/◌, ◌%◌, ◌≡◌, Bool, true, false, List, [], ◌∷◌, length, eqb}
use Rattle.std.specs.Int.Count.{ones, count_leading_zeros}
use Rattle.effect.specs.declared.Effect.{Effect}
use Rattle.model.specs.Stocks.{permits}
use Rattle.model.specs.Rounds.{lowest_rounds}
use Rattle.rule_rounds.specs.declared.Repeated.{Repeated}

-- "(nothing done, both, exit)": x taken once or not at all
abbrev pub once_or_not : Effect → Effect
once_or_not x = permits.both permits.nothing x

-- A chain of products is a list, the last first. This is its last product or, before any is formed, what it starts from.
unfoldable pub last_of : Effect → List Effect → Effect
last_of y [] = y
last_of y (a ∷ l) = a

-- one binary digit of the exponent more: the square of the last product and, for a 1, that with y behind it
unfoldable pub digit_on : Effect → Bool → List Effect → List Effect
digit_on y false l = permits.then (last_of y l) (last_of y l) ∷ l
digit_on y true l = permits.then (permits.then (last_of y l) (last_of y l)) y ∷ permits.then (last_of y l) (last_of y l) ∷ l

-- the products formed for y to the power e: those for half of e, and then for the lowest digit of e. At most d digits are looked at.
unfoldable pub power_in : ℕ → Effect → ℕ → List Effect
power_in zero y e = []
power_in (suc d) y zero = []
power_in (suc d) y (suc zero) = []
power_in (suc d) y (suc (suc n)) = digit_on y (eqb (suc (suc n) % 2) 1) (power_in d y (suc (suc n) / 2))

-- a number e has no more than e digits
unfoldable pub power_chain : Effect → ℕ → List Effect
power_chain y e = power_in e y e

-- "to the power repeats - 1 by squaring, then the exit once more"; repeats 0 is read as 1, for which nothing is formed
unfoldable pub chain_of : Effect → ℕ → List Effect
chain_of x zero = []
chain_of x (suc zero) = []
chain_of x (suc (suc r)) = permits.then (last_of (once_or_not x) (power_chain (once_or_not x) (suc r))) x ∷ power_chain (once_or_not x) (suc r)

-- what a product may be formed of: the exit, the exit once or not at all, or the product formed before
pub data Factor (x : Effect) : List Effect → Effect → Type 0 where
  the_exit : {l : List Effect} → Factor x l x
  is_once_or_not : {l : List Effect} → Factor x l (once_or_not x)
  last : {l : List Effect} {a : Effect} → Factor x (a ∷ l) a

-- every member of a chain is the "then" of two of these, so its length is the number of "then" formed
pub data Formed (x : Effect) : List Effect → Type 0 where
  none : Formed x []
  next : {l : List Effect} {a b : Effect} → Factor x l a → Factor x l b → Formed x l → Formed x (permits.then a b ∷ l)

-- nothing done for 1, else the lowest of nothing done and x taken 1 to repeats - 1 times
unfoldable pub before_of : Effect → ℕ → Effect
before_of x zero = permits.nothing
before_of x (suc zero) = permits.nothing
before_of x (suc (suc r)) = permits.both permits.nothing (lowest_rounds permits x r)

abbrev pub bit_length : ℕ → ℕ
bit_length e = 32 - count_leading_zeros 32 e

-- "For repeats = 1 it is 0. Otherwise, with e = repeats - 1, it is the bit length of e, less 1, plus the ones in e"
unfoldable pub steps_of : ℕ → ℕ
steps_of zero = 0
steps_of (suc zero) = 0
steps_of (suc (suc r)) = bit_length (suc r) - 1 + ones (suc r)

-- "and never above 14"
abbrev pub most_steps : ℕ
most_steps = 14

pub record Taking (x : Effect) (repeats : ℕ) (r : Repeated) : Type 0 where
  pub before : r.before ≡ before_of x repeats
  -- "Show it equal to the plain repetition"
  pub effect : r.effect ≡ lowest_rounds permits x (repeats - 1)
  -- "and the count equal to the chain of products formed"
  pub last : r.effect ≡ last_of x (chain_of x repeats)
  pub chain : r.steps ≡ length (chain_of x repeats)
  pub counted : r.steps ≡ steps_of repeats
