use mathlib.Core.Path.{sym, ◌∙◌}
use Rattle.work.proofs.Sweeping.{make_ready}
use Rattle.work_queued.proofs.Queued.{refused_sheet, refused_area, answered}
use Rattle.work_queued.proofs.of_passed.Goals as goal

pub returns-then-s-sheet_bytes : goal.returns-then-s-sheet_bytes
returns-then-s-sheet_bytes c =
    let a = c.args in
    let p = a.p.now in
    refused_sheet p a.s.now a.area.now (λ e. c.if-s-sheet_bytes.true (e ∙ sym c.sheet_bytes.ensures))

pub returns-then-area-ne-AREA : goal.returns-then-area-ne-AREA
returns-then-area-ne-AREA c =
    let a = c.args in
    let p = a.p.now in
    refused_area p a.s.now a.area.now (c.if-s-sheet_bytes.false ∙ c.sheet_bytes.ensures) c.if-area-ne-AREA.true

pub settle-requires : goal.settle-requires
settle-requires c =
    let p = c.args.p.now in
    (make_ready p (c.if-s-sheet_bytes.false ∙ c.sheet_bytes.ensures), c.if-area-ne-AREA.false)

pub returns : goal.returns
returns c =
    let a = c.args in
    let p = a.p.now in
    let done = c.settle.ensures in
    rw c.verdict.ensures (answered p a.s.now (c.if-s-sheet_bytes.false ∙ c.sheet_bytes.ensures) c.if-area-ne-AREA.false done.0 done.1)
