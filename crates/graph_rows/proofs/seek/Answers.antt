use native.Mathlib.Omega.{arith}
use borrow.Author.Rules.{rules}
use mathlib.Core.Path.{◌≡◌, ◌∙◌}
use mathlib.Core.Bool.{true, false}
use Rattle.std.proofs.lemmas.Iterator.{first_from_Range}
use Rattle.words.proofs.Lowest.{find_from}
use Rattle.graph_rows.specs.Rows.{key_of, first_row}
use Rattle.graph_rows.proofs.Halve.{AtLeast}
use Rattle.graph_rows.proofs.Stretches.{first_lowest}
use Rattle.graph_rows.proofs.seek.Goals as goal

pub returns : goal.returns
unfolding first_row
returns c =
    let a = c.args in
    let p = AtLeast (key_of a.g.now.file.now a.g.now.tables a.table) a.x in
    let w = first_lowest a.g.now.file.now a.g.now.tables a.table a.x in
    c.unwrap_or.ensures ∙ find_from p c.rows-n.ensures (λ k l. w.before k (omega (arith, c.requires))) _
    (first_from_Range _ _ _ _ (λ k. p k ≡ true) (λ k. p k ≡ false) c.find.ensures.ran (λ x q k. search rules) (λ x q k. search rules))
