use native.Mathlib.Nat.{lt_irrefl}
use borrow.Author.Count.{below_none}
use borrow.Author.Tests.{le-leb}
use borrow.Author.Rules.{rules}
use Rattle.graph_tables.specs.Rows.{rows_of}
use Rattle.graph_rows.specs.Rows.{key_of, first_row}
use Rattle.graph_rows.proofs.Halve.{AtLeast, less_below, closed}
use Rattle.graph_rows.proofs.first_row.Goals as goal

pub loop-low-init : goal.loop-low-init
loop-low-init c = (search rules, search rules, below_none _, λ l. absurd (lt_irrefl _ l))

pub loop-low-preserved-then-x-key : goal.loop-low-preserved-then-x-key
loop-low-preserved-then-x-key c =
    let l = c.loop-low.invariant in
    (search rules, search rules, l.2, λ u. rw (← c.key.ensures) (le-leb _ _ c.if-x-key.true))

pub loop-low-preserved : goal.loop-low-preserved
loop-low-preserved c =
    let l = c.loop-low.invariant in
    let n = c.rows-high.ensures in
    let less = rw c.key.ensures at c.if-x-key.false in (
      search rules,
      search rules,
      less_below _ (rows_of c.args.g.now.tables c.args.table) c.args.x _ (c.requires c.args.table) (rw (← n) (search rules)) less,
      l.3,
    )

pub returns : goal.returns
unfolding first_row
returns c =
    let l = c.loop-low.invariant in
    let a = c.args in
    let n = c.rows-high.ensures in
    closed (AtLeast (key_of a.g.now.file.now a.g.now.tables a.table) a.x) n l.0 (search rules) l.1 l.2 l.3
