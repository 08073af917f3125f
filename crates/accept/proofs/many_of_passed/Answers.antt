use mathlib.Core.Path.{refl}
use Rattle.answer.specs.declared.Answer.TheVariants.{Pass, BadRow}
use Rattle.answer.proofs.Settled.{says}
use Rattle.accept.specs.Many.{miscounted, checked}
use Rattle.accept.proofs.Many.{own, relies}
use Rattle.accept.proofs.many_of_passed.Goals as goal

pub count_of-requires : goal.count_of-requires
count_of-requires c = (relies c.args.p.now).1

pub fill_row-requires : goal.fill_row-requires
fill_row-requires c = c.count_of.ensures.some _ c.in-Some.is

pub returns-in-Some : goal.returns-in-Some
returns-in-Some c =
    let p = c.args.p.now in
    checked p.passes c.in-Some.count (rw (own p) at (c.count_of.ensures.some _ c.in-Some.is)) c.fill_row.ensures (says Pass)

pub returns-in-None : goal.returns-in-None
returns-in-None c =
    let p = c.args.p.now in
    miscounted p.passes (λ k h. c.count_of.ensures.none c.in-None.is k (rw (own p) h)) refl (says BadRow)
