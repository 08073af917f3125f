use mathlib.Core.Path.{◌≡◌, sym}
use mathlib.Core.Bool.{true, false}
use native.Mathlib.Omega.{arith}
use borrow.Author.Rules.{rules}
use Rattle.words_digits.specs.Text.{joined}
use Rattle.words_digits.proofs.Written.{retext, ◌then◌, rest}
use Rattle.listing_first.specs.Listing.{node_lines, is_verdict}
use Rattle.listing_first.proofs.Lengths.{is_full, is_short, first_fits}
use Rattle.listing_text.proofs.put_listing.Goals as goal

pub put_first-requires : goal.put_first-requires
put_first-requires c =
    let a = c.args in omega (arith, first_fits a.a a.g.now.file.now a.g.now.tables a.x a.s.now)

pub put_nodes-requires : goal.put_nodes-requires
put_nodes-requires c =
    let a = c.args in
    let verdict : is_verdict a.a ≡ true = search rules in (
      c.requires.0,
      rest (joined (node_lines a.g.now.file.now a.g.now.tables a.x a.s.now) a.x.nodes) c.put_first.ensures (rw (is_full a.a a.g.now.file.now a.g.now.tables a.x a.s.now verdict) at c.requires.1),
    )

pub returns-in-Pass : goal.returns-in-Pass
returns-in-Pass c =
    let a = c.args in
    let verdict : is_verdict a.a ≡ true = search rules in
    retext (c.put_first.ensures then c.put_nodes.ensures) (sym (is_full a.a a.g.now.file.now a.g.now.tables a.x a.s.now verdict))

pub returns-in_default : goal.returns-in_default
returns-in_default c =
    let a = c.args in
    let refused : is_verdict a.a ≡ false = search rules in
    retext c.put_first.ensures (sym (is_short a.a a.g.now.file.now a.g.now.tables a.x a.s.now refused))
