use Prim.Native.Nat.{◌+◌, ◌*◌, ◌<◌}
use mathlib.Core.Path.{refl}
use Rattle.sheet.specs.Read.{sheet_word}
use Rattle.effect.proofs.Filled.{one_more, all_read}
use borrow.Author.Rules.{rules}
use Rattle.sheet.proofs.inner_column.Goals as goal

pub loop-k-init : goal.loop-k-init
loop-k-init c = refl

pub loop-k-preserved : goal.loop-k-preserved
loop-k-preserved c =
    let a = c.args in
    let few : c.loop-k.k < 6 = search rules in
    one_more (λ i. sheet_word a.s.now (a.w + (a.j + a.n * i))) a.none _ few c.loop-k.invariant c.inner_word.ensures.0

pub returns : goal.returns
returns c =
    let a = c.args in
    all_read (λ i. sheet_word a.s.now (a.w + (a.j + a.n * i))) a.none (search rules) (search rules) c.loop-k.invariant
