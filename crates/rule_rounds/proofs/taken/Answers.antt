use Prim.Native.Nat.{◌-◌}
use native.Mathlib.Omega.{arith}
use Rattle.effect.proofs.Means.{effect_words}
use Rattle.rule_rounds.proofs.Takes.{few_taken, chain_few, more_taken, with_few}
use Rattle.rule_rounds.proofs.taken.Goals as goal

pub returns-then-repeats-lt2 : goal.returns-then-repeats-lt2
returns-then-repeats-lt2 c =
    let a = c.args in
    let all = with_few c.ranges.repeats.fits (few_taken a.x c.nothing_done-none.result a.repeats c.if-repeats-lt2.true c.nothing_done-none.ensures.equals) in
    record { means = all.0; few = all.1 }

pub overflow_add-result : goal.overflow_add-result
overflow_add-result c = omega (arith, chain_few c.both.result (c.args.repeats - 1) c.power-p.result (omega arith) (omega arith) c.power-p.ensures)

pub returns : goal.returns
returns c =
    let a = c.args in
    let fits = c.ranges.repeats.fits in
    let all = with_few fits
    (more_taken a.x c.nothing_done-none.result c.both.result c.then.result c.power-p.result a.repeats
    c.if-repeats-lt2.false fits (effect_words a.x c.well_formed.0)
    c.nothing_done-none.ensures.equals c.both.ensures.equals c.power-p.ensures c.then.ensures.equals) in
    record { means = all.0; few = all.1 }
