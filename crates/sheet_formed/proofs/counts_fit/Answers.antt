use borrow.Author.Rules.{rules}
use native.Mathlib.Omega.{arith}
use Prim.Native.Nat.{ℕ}
use mathlib.Core.Path.{◌∙◌}
use lib.Dec.{leb}
use Rattle.std.proofs.lemmas.Iterator.{YieldsList-from_slice}
use Rattle.std.proofs.lemmas.Iterator.Search.{all_from_yields_List}
use Rattle.sheet_formed.specs.Ill.{counts_fit}
use Rattle.sheet_formed.proofs.Inner.{all_list}
use Rattle.sheet_formed.proofs.counts_fit.Goals as goal

pub returns : goal.returns
unfolding counts_fit
returns c =
    let counts = c.args.x.counts in
    let test = λ (v : ℕ). leb v 255 in
    all_from_yields_List test _ _ _ c.all.ensures.ran (YieldsList-from_slice counts cc) (λ x b q k. search rules) ∙ all_list test counts (omega arith)
