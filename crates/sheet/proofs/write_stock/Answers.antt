use Prim.Native.Nat.{◌+◌, ◌*◌, ◌≤◌}
use mathlib.Core.Path.{refl, sym, ap, ◌∙◌}
use lib.ListN.{length}
use lib.Seq.{length-take-le}
use native.Mathlib.Omega.{arith}
use Rattle.words.specs.Write.{splice}
use Rattle.sheet.proofs.Fill.{stock_laid, laid_long}
use Rattle.sheet.proofs.write_stock.Goals as goal

pub slice_bounds-put_block-end : goal.slice_bounds-put_block-end
slice_bounds-put_block-end c =
    let long = laid_long _ _ _ _ _ c.laid-v.ensures (laid_long _ _ _ _ _ c.laid.ensures refl) in
    sym (length-take-le _ _ (omega (arith, long, c.requires.1)))

pub put_block-requires : goal.put_block-requires
put_block-requires c =
    let long = laid_long _ _ _ _ _ c.laid-v.ensures (laid_long _ _ _ _ _ c.laid.ensures refl) in
    let few : 1 + 2 * c.args.t ≤ length c.laid-v.result = omega (arith, long, c.requires.1) in
    rw (length-take-le (1 + 2 * c.args.t) c.laid-v.result few) (omega (arith, c.requires.0))

pub returns : goal.returns
returns c =
    let a = c.args in
    c.put_block.ensures ∙ ap (splice a.s.now (2 * a.w)) (stock_laid a.x a.t c.requires.1 c.laid.ensures c.laid-v.ensures)
