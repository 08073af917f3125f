use Prim.Native.Nat.{ℕ}
use mathlib.Core.List.{List}
use mathlib.Core.Path.{ap}
use native.Mathlib.Omega.{arith}
use borrow.Author.Rules.{rules}
use lib.ListN.{length}
use Rattle.effect.specs.declared.Stock.{Stock}
use Rattle.effect.specs.Six.{held_at}
use Rattle.listing_first.specs.Listing.{stock_line}
use Rattle.words_digits.proofs.Join.{room}
use Rattle.words_digits.proofs.Written.{start, turn, retext}
use Rattle.listing_lines.proofs.put_stock.Goals as goal

abbrev line : ℕ → Stock → ℕ → List ℕ
line n held k = stock_line n k (held_at held k)

pub loop-k-init : goal.loop-k-init
loop-k-init c =
    let a = c.args in start (line a.n a.held) a.text.now (omega arith)

pub put_line-requires : goal.put_line-requires
put_line-requires c =
    let a = c.args in
    let l = c.loop-k in
    let w = l.invariant.puts in
    omega (arith, w.ends, w.long, room (line a.n a.held) l.k a.types (search rules), ap (λ h. length (stock_line a.n l.k h)) c.held_at.ensures)

pub loop-k-preserved : goal.loop-k-preserved
loop-k-preserved c =
    let a = c.args in
    let k = c.loop-k.k in
    turn (line a.n a.held) k c.loop-k.invariant (retext c.put_line.ensures (ap (stock_line a.n k) c.held_at.ensures))
