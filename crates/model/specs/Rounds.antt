-- What the rules ask of a call for every number of rounds, as one effect each: the lowest of them.
use Rattle.std.specs.Prelude.{ℕ, zero, suc, ◌-◌, Bool, true, false}
use Rattle.model.specs.Rules.{Effects}

-- the lowest of an effect taken 1 to 1 + j times
unfoldable pub lowest_rounds : (W : Effects) → W.Effect → ℕ → W.Effect
lowest_rounds W x zero = x
lowest_rounds W x (suc j) = W.both x (W.then (lowest_rounds W x j) x)

-- the call's effect, then exit 0 taken 1 to r times
unfoldable pub whole_rounds : (W : Effects) → W.Effect → W.Effect → ℕ → W.Effect
whole_rounds W call x r = W.then call (lowest_rounds W x (r - 1))

-- the call's effect, then exit 0 taken 0 times, or 0 to r - 1 times if it is marked
unfoldable pub earlier_rounds : (W : Effects) → W.Effect → Bool → W.Effect → ℕ → W.Effect
earlier_rounds W call marked x zero = call
earlier_rounds W call marked x (suc zero) = call
earlier_rounds W call false x (suc (suc r)) = call
earlier_rounds W call true x (suc (suc r)) = W.both call (W.then call (lowest_rounds W x r))
