-- A program: the graph that its runs follow, what its nodes do to a stock, and the stock that a run starts with.
use Rattle.std.specs.Prelude.{ℕ}
use Rattle.effect.specs.declared.Stock.{Stock}
use Rattle.effect.specs.declared.Effect.{Effect}
use Rattle.model.specs.Machine.{Graph, Doing}
use Rattle.model.specs.Stocks.{Does, doing, step_of}

pub record Program : Type 1 where
  pub graph : Graph
  pub does : ℕ → Does
  pub opening : Stock

-- what its nodes do in a run, and the effects of their own steps
abbrev pub doings : Program → Doing Stock
doings p = doing p.does

abbrev pub steps : Program → ℕ → Effect
steps p n = step_of (p.does n)
