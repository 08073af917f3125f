-- What a node's own step does to the type that it is of.
use Rattle.std.specs.Prelude.{ℕ}
use Rattle.effect_one.specs.declared.One.{One}
use Rattle.effect_one.specs.Single.{idle}
use Rattle.effect_one.specs.Formulas.{drawn, granted}
use Rattle.model.specs.Stocks.{Does, plain, grant, draw}

unfoldable pub own_of : Does → One
own_of plain = idle
own_of (grant t p m) = granted p m
own_of (draw t p) = drawn
