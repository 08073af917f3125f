use Rattle.words_digits.specs.Text.{joined}
use Rattle.words_digits.specs.Writes.{Writes}
use Rattle.words_digits.proofs.Places.{place}
use Rattle.words_digits.proofs.Text.put_decimal.Given as goal

abbrev pub invariant-loop-p : goal.invariant-loop-p
invariant-loop-p l = Writes l.initial.self (joined (place l.n) l.p-index) l.self
