use mathlib.Core.Path.{sym}
use borrow.Author.Rules.{rules}
use Rattle.words_digits.proofs.Written.{retext, ◌then◌}
use Rattle.words_digits.proofs.Places.{hex_more}
use Rattle.words_digits.proofs.Text.put_hex.Goals as goal

pub loop-p-preserved : goal.loop-p-preserved
loop-p-preserved c =
    let written = rw c.hex_digit.ensures at c.put_byte.ensures in
    retext (c.loop-p.invariant then written) (sym (hex_more c.args.n c.loop-p.p-index (search rules)))
