use Rattle.words_digits.specs.Text.{joined}
use Rattle.words_digits.specs.Writes.{Writes}
use Rattle.listing_first.specs.Listing.{node_lines}
use Rattle.listing_text.proofs.put_nodes.Given as goal

abbrev pub invariant-loop-n : goal.invariant-loop-n
invariant-loop-n l = Writes l.initial.text (joined (node_lines l.g.file.now l.g.tables l.x l.s) l.n) l.text
