-- The rounds of a call, as the rules ask for them.
use Rattle.std.specs.Prelude.{ℕ, Bool, true, false}
use Rattle.effect.specs.declared.Effect.{Effect}
use Rattle.model.specs.Stocks.{permits}
use Rattle.model.specs.Rounds.{whole_rounds, earlier_rounds}
use Rattle.rule_rounds.specs.declared.Rounds.{Rounds}

-- a call whose method does not return has no whole round, and nothing asks for one
unfoldable pub whole_of : Effect → Bool → Effect → ℕ → Effect
whole_of call true x repeats = whole_rounds permits call x repeats
whole_of call false x repeats = call

unfoldable pub rounds_of : Effect → Bool → Effect → ℕ → Rounds
rounds_of call marked x repeats = record { earlier = earlier_rounds permits call marked x repeats; whole = whole_of call marked x repeats }
