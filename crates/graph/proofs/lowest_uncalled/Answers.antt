use borrow.Author.Rules.{rules}
use mathlib.Core.Path.{◌≡◌, refl, ◌∙◌}
use mathlib.Core.Bool.{true, false}
use Rattle.std.proofs.lemmas.Iterator.{first_from_Range}
use Rattle.words.proofs.Lowest.{find_lowest}
use Rattle.graph_refuse.specs.Bad.{uncalled}
use Rattle.graph.proofs.lowest_uncalled.Goals as goal

pub returns : goal.returns
returns c =
    let p = uncalled c.args.g.now.file.now c.args.g.now.tables in
    c.unwrap_or.ensures ∙ find_lowest p refl _
    (first_from_Range _ _ _ _ (λ k. p k ≡ true) (λ k. p k ≡ false) c.find.ensures.ran (λ x q k. search rules) (λ x q k. search rules))
