use borrow.Author.Rules.{rules}
use mathlib.Core.Path.{◌≡◌, ◌∙◌}
use mathlib.Core.Bool.{true, false}
use Rattle.std.proofs.lemmas.Iterator.{first_from_Range}
use Rattle.words.proofs.Lowest.{find_lowest}
use Rattle.sheet_formed.specs.Ill.{ill_block}
use Rattle.sheet_formed.proofs.first_ill.Goals as goal

pub returns : goal.returns
returns c =
    let p = ill_block c.args.s.now c.args.x in
    c.unwrap_or.ensures
    ∙ find_lowest p c.block_count-n.ensures _
    (first_from_Range _ _ _ _ (λ k. p k ≡ true) (λ k. p k ≡ false) c.find.ensures.ran (λ x q k. search rules) (λ x q k. search rules))
