-- What an effect leaves of a stock, and nothing done at some types.
use Rattle.std.specs.Prelude.{Bool, true, false}
use Rattle.effect_one.specs.declared.One.{One}
use Rattle.effect_one.specs.Single.{idle, apply_one}
use Rattle.effect.specs.declared.Stock.{Stock}
use Rattle.effect.specs.declared.Effect.{Effect}
use Rattle.effect.specs.Six.{held_at, stock_of, one_at}

-- "An effect tells, for each type, what is left after a stretch"
unfoldable pub apply_of : Effect → Stock → Stock
apply_of e s = stock_of (λ k. apply_one (one_at e k) (held_at s k))

-- x where the test holds, else nothing done
abbrev pub one_if : Bool → One → One
one_if true x = x
one_if false x = idle
