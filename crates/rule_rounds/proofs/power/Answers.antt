use native.Mathlib.Omega.{arith}
use Rattle.rule_rounds.proofs.Steps.{top_one}
use Rattle.rule_rounds.proofs.Takes.{at_top, digit_read, all_read, way_few}
use Rattle.rule_rounds.proofs.power.Goals as goal

pub loop-place-init : goal.loop-place-init
loop-place-init c =
    let top = c.ilog2-place.ensures in
    at_top c.args.y c.args.e _ (top_one c.args.e _ top.power_le top.next_power_gt)

pub digit-p-requires : goal.digit-p-requires
digit-p-requires c =
    let a = c.args in
    omega (arith, way_few a.y a.e _ c.loop-place.p c.ranges.e.fits c.loop-place.invariant)

pub loop-place-preserved : goal.loop-place-preserved
loop-place-preserved c =
    let a = c.args in
    digit_read a.y a.e c.loop-place.place c.loop-place.p c.digit-p.result (omega arith) c.digit-p.ensures c.loop-place.invariant

pub returns : goal.returns
returns c =
    let a = c.args in
    all_read a.y a.e _ c.loop-place.p (omega arith) c.loop-place.invariant
