use borrow.Author.Tests.{lt-ltb, le-ltb}
use Rattle.words_digits.proofs.hex_digit.Goals as goal

pub returns-then-d-lt10 : goal.returns-then-d-lt10
returns-then-d-lt10 c = rw (lt-ltb _ _ c.if-d-lt10.true)

pub returns : goal.returns
returns c = rw (le-ltb _ _ c.if-d-lt10.false)
