use mathlib.Core.Path.{◌≡◌, ap, ◌∙◌}
use borrow.Author.Rules.{rules}
use Rattle.sheet.specs.Write.{laid_out}
use Rattle.sheet.proofs.Fill.{laid_none, laid_more}
use Rattle.sheet.proofs.laid.Goals as goal

pub loop-k-init : goal.loop-k-init
loop-k-init c = laid_none _ _ _ _

pub loop-k-preserved : goal.loop-k-preserved
loop-k-preserved c = laid_more _ _ _ _ _ c.loop-k.invariant

pub returns : goal.returns
returns c =
    let e : c.loop-k.k ≡ c.args.t = search rules in
    c.loop-k.invariant ∙ ap (laid_out _ _ _ _) e
