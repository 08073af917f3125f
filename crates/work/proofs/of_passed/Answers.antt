use mathlib.Core.Path.{sym, ◌∙◌}
use Rattle.work.proofs.Sweeping.{make_ready, refused_length, answers}
use Rattle.work.proofs.of_passed.Goals as goal

pub returns-then-s-sheet_bytes : goal.returns-then-s-sheet_bytes
returns-then-s-sheet_bytes c =
    let p = c.args.p.now in
    refused_length p (λ e. c.if-s-sheet_bytes.true (e ∙ sym c.sheet_bytes.ensures))

pub settle-requires : goal.settle-requires
settle-requires c =
    let p = c.args.p.now in
    make_ready p (c.if-s-sheet_bytes.false ∙ c.sheet_bytes.ensures)

pub returns : goal.returns
returns c =
    let p = c.args.p.now in
    let ready = make_ready p (c.if-s-sheet_bytes.false ∙ c.sheet_bytes.ensures) in
    rw c.verdict.ensures (answers ready c.settle.ensures)
