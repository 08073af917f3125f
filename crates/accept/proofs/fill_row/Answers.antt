use mathlib.Core.Path.{◌≡◌, subst}
use native.Mathlib.Omega.{arith}
use borrow.Author.Rules.{rules}
use Rattle.accept.specs.Many.{Told}
use Rattle.accept.proofs.Many.{sheet_within, relies, passed_alone, told_none, told_more}
use Rattle.accept.proofs.fill_row.Goals as goal

pub loop-i-init : goal.loop-i-init
loop-i-init c = (told_none _ _ _, rw c.sheet_bytes-size.ensures c.requires)

pub overflow_mul-start : goal.overflow_mul-start
overflow_mul-start c = omega (arith, sheet_within c.sheet_bytes-size.result c.loop-i-test.true)

pub overflow_add-end : goal.overflow_add-end
overflow_add-end c = omega (arith, sheet_within c.sheet_bytes-size.result c.loop-i-test.true)

pub of_judged-a-requires : goal.of_judged-a-requires
of_judged-a-requires c = relies c.args.p.now

pub loop-i-preserved : goal.loop-i-preserved
loop-i-preserved c =
    let inv = c.loop-i.invariant in
    let alone = passed_alone c.args.p.now c.args.sheets.now c.loop-i.i c.sheet_bytes-size.ensures c.of_judged-a.ensures in
    (told_more _ _ inv.0 (search rules) alone c.put_answer.ensures, inv.1)

pub returns : goal.returns
returns c =
    let a = c.args in
    let all : c.loop-i.i ≡ a.count = omega arith in
    subst (Told a.p.now.graph.file.now a.sheets.now a.row.now c.loop-i.row) all c.loop-i.invariant.0
