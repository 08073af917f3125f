use Rattle.words_digits.proofs.Written.{◌then◌}
use Rattle.listing_first.specs.Listing.{stock_line}
use Rattle.listing_lines.proofs.put_line.Goals as goal

pub returns : goal.returns
unfolding stock_line
returns c =
    c.put_decimal.ensures
    then c.put_byte.ensures
    then c.put_decimal-2.ensures
    then c.put_byte-2.ensures
    then c.put_hex.ensures
    then c.put_byte-3.ensures
    then c.put_count.ensures
    then c.put_byte-4.ensures
