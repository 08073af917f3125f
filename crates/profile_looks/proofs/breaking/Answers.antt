use Prim.Native.Nat.{min}
use mathlib.Core.Path.{◌∙◌}
use Rattle.profile_looks.proofs.breaking.Goals as goal

pub returns-in-OneShot : goal.returns-in-OneShot
returns-in-OneShot c =
    rw c.in-OneShot.is
    (c.min-in-OneShot.ensures
    ∙ (λ i. min (c.lowest-flow.ensures i) ((c.min.ensures ∙ (λ j. min (c.lowest-entry.ensures j) (c.lowest-catches.ensures j))) i)))

pub returns-in-Session : goal.returns-in-Session
returns-in-Session c = rw c.in-Session.is (c.min-in-Session.ensures ∙ (λ i. min (c.lowest-grant.ensures i) (c.lowest-call.ensures i)))
