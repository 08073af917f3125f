use mathlib.Core.Bool.{◌||◌}
use Rattle.engine_row.specs.Lowers.{lowers}
use Rattle.engine_row.proofs.take_effect.Goals as goal

pub returns : goal.returns
unfolding lowers
returns c =
    let e = c.effect_to.ensures in λ rule i. (e.1 i, c.args.wrote || e.0 i)
