use native.Mathlib.Omega.{arith}
use borrow.Author.Tests.{lt-ltb, le-ltb}
use Rattle.words_digits.specs.Digits.{place_text}
use Rattle.words_digits.proofs.Written.{none}
use Rattle.words_digits.proofs.Text.put_place.Goals as goal

pub put_byte-requires : goal.put_byte-requires
unfolding place_text
put_byte-requires c = rw (le-ltb _ _ c.if-n-p.true) at c.requires.1

pub returns-then-n-p : goal.returns-then-n-p
unfolding place_text
returns-then-n-p c = rw (le-ltb _ _ c.if-n-p.true) c.put_byte.ensures

pub returns-else-n-p : goal.returns-else-n-p
unfolding place_text
returns-else-n-p c = rw (lt-ltb _ _ c.if-n-p.false) (none c.args.self.now (omega arith))
