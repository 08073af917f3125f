use Prim.Native.Nat.{ℕ}
use mathlib.Core.Path.{◌∙◌, ap}
use lib.Dec.{eqb}
use Rattle.effect.proofs.Failing.{stock_fails_none}
use Rattle.effect.proofs.Means.{tells_stock}
use Rattle.effect_order.proofs.stock_at_most.Goals as goal

pub returns : goal.returns
returns c =
    let a = c.args in
    let all = tells_stock a.s a.t c.well_formed.0 (ap (λ (n : ℕ). eqb n 6) c.stock_fails.ensures.equals ∙ stock_fails_none a.s a.t) in
    record { equals = all.0; means = all.1 }
