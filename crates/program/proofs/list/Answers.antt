use Rattle.std.proofs.Common.{◌≤◌, length, arith, ap, ◌∙◌}
use Rattle.std.proofs.lemmas.List.{length-take-le}
use Rattle.sheet_layout.specs.Layout.{sheet_bytes}
use Rattle.sheet_layout.proofs.Bounds.{sheet_le}
use Rattle.program.proofs.Printed.{list_printed}
use Rattle.program.proofs.list.Goals as goal

pub returns : goal.returns
unfolding sheet_bytes
returns c =
    let few : length c.args.input.now ≤ 13486 = omega arith in
    list_printed c.of_judged-reply.ensures c.requires few
    (length-take-le _ _ (omega (arith, sheet_le c.judged-j.ensures.within)) ∙ c.sheet_bytes-end.ensures ∙ ap (λ j. sheet_bytes j.shape) c.judged-j.ensures.equals)
