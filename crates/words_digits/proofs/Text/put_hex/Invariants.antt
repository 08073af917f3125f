use lib.ListN.{take}
use Rattle.words_digits.specs.Digits.{four_hex}
use Rattle.words_digits.specs.Writes.{Writes}
use Rattle.words_digits.proofs.Text.put_hex.Given as goal

abbrev pub invariant-loop-p : goal.invariant-loop-p
invariant-loop-p l = Writes l.initial.self (take l.p-index (four_hex l.n)) l.self
