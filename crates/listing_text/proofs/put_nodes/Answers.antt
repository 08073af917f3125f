use native.Mathlib.Omega.{arith}
use borrow.Author.Rules.{rules}
use Rattle.listing_first.specs.Listing.{node_lines}
use Rattle.words_digits.proofs.Join.{room}
use Rattle.words_digits.proofs.Written.{start, turn}
use Rattle.listing_text.proofs.put_nodes.Goals as goal

pub loop-n-init : goal.loop-n-init
loop-n-init c =
    let a = c.args in start (node_lines a.g.now.file.now a.g.now.tables a.x a.s.now) a.text.now (omega arith)

pub put_node-requires : goal.put_node-requires
put_node-requires c =
    let a = c.args in
    let l = c.loop-n in
    let w = l.invariant.puts in
    (c.requires.0, omega (arith, w.ends, w.long, room (node_lines a.g.now.file.now a.g.now.tables a.x a.s.now) l.n a.x.nodes (search rules)))

pub loop-n-preserved : goal.loop-n-preserved
loop-n-preserved c =
    let a = c.args in turn (node_lines a.g.now.file.now a.g.now.tables a.x a.s.now) c.loop-n.n c.loop-n.invariant c.put_node.ensures
