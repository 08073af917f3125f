-- The lines that document 01 prints for file A, and one of each other kind.
use mathlib.Core.Path.{◌≡◌, refl}
use Rattle.words_digits.specs.Text.{ascii}
use Rattle.words_digits.specs.Digits.{place_text, decimal}
use Rattle.answer.specs.declared.Answer.TheVariants.{Pass, BadLength, BadBlock, Overdrawn}
use Rattle.listing_first.specs.Listing.{overdrawn_line, refused_line, first_line, count_text, stock_line}

known_line : stock_line 1 0 (record { rights = 0x0101; count = 2 }) ≡ ascii "1 0 0101 2\n"
unfolding stock_line decimal place_text count_text
known_line = refl

known_endless : stock_line 511 5 (record { rights = 0xf0ad; count = 255 }) ≡ ascii "511 5 f0ad *\n"
unfolding stock_line decimal place_text count_text
known_endless = refl

known_zero : stock_line 0 0 (record { rights = 0; count = 0 }) ≡ ascii "0 0 0000 0\n"
unfolding stock_line decimal place_text count_text
known_zero = refl

known_pass : first_line Pass ≡ ascii "pass\n"
unfolding first_line
known_pass = refl

-- "The listing's first line becomes `overdrawn 3 0`", and "ends with" the line, here 217
known_overdrawn : first_line (Overdrawn 3 0 217) ≡ ascii "overdrawn 3 0 217\n"
unfolding first_line overdrawn_line decimal place_text
known_overdrawn = refl

known_refused : first_line (BadBlock 10204) ≡ ascii "refused 11 10204\n"
unfolding first_line refused_line decimal place_text
known_refused = refl

-- "For input longer than" the longest file "the program prints `refused 3 0`"
pub known_too_long : first_line BadLength ≡ ascii "refused 3 0\n"
unfolding first_line refused_line decimal place_text
known_too_long = refl
