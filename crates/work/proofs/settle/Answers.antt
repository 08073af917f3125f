use mathlib.Core.Path.{sym, ap, subst, ◌∙◌}
use lib.ListN.{length}
use borrow.Author.Rules.{rules}
use Rattle.sheet.proofs.Back.{blank_length}
use Rattle.engine_row.specs.Lowers.{sheet_of, wrote_of}
use Rattle.rule_ready.proofs.Inside.{still_ready}
use Rattle.engine_sweep.proofs.Sweeps.{settled}
use Rattle.work.specs.Swept.{Swept, unswept, again}
use Rattle.work.proofs.Sweeping.{falls}
use Rattle.work.proofs.settle.Goals as goal

pub loop-x-init : goal.loop-x-init
loop-x-init c = (search rules, unswept)

pub once-requires : goal.once-requires
once-requires c = still_ready c.requires (c.loop-x.invariant.0 ∙ ap length c.blank.ensures ∙ blank_length c.args.s.now)

pub loop-x-smaller : goal.loop-x-smaller
loop-x-smaller c =
    let e = c.once.ensures in
    let swept = subst (λ v. Swept c.args.g.now.file.now c.args.g.now.tables c.args.x v c.loop-x.s) c.blank.ensures c.loop-x.invariant.1 in
    rw (ap sheet_of e) (falls c.requires c.loop-x.backwards swept (sym (ap wrote_of e) ∙ c.loop-x-test.true))

pub loop-x-preserved : goal.loop-x-preserved
loop-x-preserved c = (search rules, rw (ap sheet_of c.once.ensures) (again c.loop-x.backwards c.loop-x.invariant.1))

pub returns : goal.returns
returns c =
    let e = c.once.ensures in
    let swept = subst (λ v. Swept c.args.g.now.file.now c.args.g.now.tables c.args.x v c.loop-x.s) c.blank.ensures c.loop-x.invariant.1 in
    let content = sym (ap wrote_of e) ∙ c.loop-x-test.false in
    rw (ap sheet_of e ∙ (settled c.args.g.now.file.now c.args.g.now.tables c.args.x c.loop-x.s c.loop-x.backwards content).0) (record { swept = swept; backwards = c.loop-x.backwards; content = content })
