use Prim.Native.Nat.{◌<◌}
use borrow.Author.Tests.{ltb-true}
use mathlib.Core.Bool.{◌&&◌}
use Rattle.words.proofs.Tests.{and_l, and_r}
use Rattle.rule_ask.proofs.in_place.Goals as goal

pub returns : goal.returns
returns c =
    λ h.
    let blocks = and_l _ _ h in
    let there = c.lies_in.ensures.0 (and_l _ _ blocks) in
    let here = c.lies_in-2.ensures.0 (and_r c.lies_in.result _ blocks) in
    let a = c.args in
    let own : c.node_number.result < a.x.types = ltb-true c.node_number.result a.x.types (and_r (c.lies_in.result && c.lies_in-2.result) _ h) in
    (there.0, rw c.node_number.ensures.0 at own, there.1, rw c.node_at.ensures at here.1)
