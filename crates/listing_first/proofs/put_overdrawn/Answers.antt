use Rattle.words_digits.proofs.Written.{◌then◌}
use Rattle.listing_first.specs.Listing.{overdrawn_line}
use Rattle.listing_first.proofs.put_overdrawn.Goals as goal

pub returns : goal.returns
unfolding overdrawn_line
returns c =
    c.put_text.ensures
    then c.put_decimal.ensures
    then c.put_byte.ensures
    then c.put_decimal-2.ensures
    then c.put_byte-2.ensures
    then c.put_decimal-3.ensures
    then c.put_byte-3.ensures
