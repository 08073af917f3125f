use mathlib.Core.Bool.{◌||◌}
use Rattle.engine_row.specs.Lowers.{lowers}
use Rattle.engine_row.proofs.take_stock.Goals as goal

pub returns : goal.returns
unfolding lowers
returns c =
    let e = c.stock_to.ensures in λ rule i. (e.1 i, c.args.wrote || e.0 i)
