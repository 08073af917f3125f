use native.Mathlib.Omega.{arith}
use borrow.Author.Tests.{lt-ltb, le-ltb}
use Rattle.effect.specs.Whole.{covers_of}
use Rattle.effect.proofs.Means.{tells_covers}
use Rattle.effect_order.proofs.covers.Goals as goal

pub returns-then-t-lt6 : goal.returns-then-t-lt6
unfolding covers_of
returns-then-t-lt6 c =
    let a = c.args in
    let all = tells_covers a.s a.t a.rights (simp (lt-ltb a.t 6 (omega arith), c.held_at.ensures, c.covers.ensures)) in
    record { equals = all.0; means = all.1 }

pub returns-else-t-lt6 : goal.returns-else-t-lt6
unfolding covers_of
returns-else-t-lt6 c =
    let a = c.args in
    let all = tells_covers a.s a.t a.rights (simp (le-ltb a.t 6 (omega arith))) in
    record { equals = all.0; means = all.1 }
