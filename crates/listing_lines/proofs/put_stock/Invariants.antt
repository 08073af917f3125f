use Rattle.words_digits.specs.Writes.{Writes}
use Rattle.listing_first.specs.Listing.{stock_lines}
use Rattle.listing_lines.proofs.put_stock.Given as goal

abbrev pub invariant-loop-k : goal.invariant-loop-k
invariant-loop-k l = Writes l.initial.text (stock_lines l.n l.held l.k) l.text
