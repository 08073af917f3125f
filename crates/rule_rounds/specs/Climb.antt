-- How far a chain of products has come: its last product, and how many there are.
use Rattle.std.specs.Prelude.{List, length}
use Rattle.effect.specs.declared.Effect.{Effect}
use Rattle.rule_rounds.specs.declared.Climb.{Climb}
use Rattle.rule_rounds.specs.Chain.{last_of}

unfoldable pub climb_of : Effect → List Effect → Climb
climb_of y l = record { power = last_of y l; steps = length l }
