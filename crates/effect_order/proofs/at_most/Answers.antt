use Prim.Native.Nat.{ℕ}
use mathlib.Core.Path.{◌∙◌, ap}
use lib.Dec.{eqb}
use Rattle.effect.proofs.Failing.{fails_none}
use Rattle.effect.proofs.Means.{tells_at_most}
use Rattle.effect_order.proofs.at_most.Goals as goal

pub returns : goal.returns
returns c =
    let a = c.args in
    let all = tells_at_most a.a a.b c.well_formed.0 (ap (λ (n : ℕ). eqb n 6) c.fails.ensures.equals ∙ fails_none a.a a.b) in
    record { equals = all.0; means = all.1 }
