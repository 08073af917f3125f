use lib.ListN.{length, get_or}
use Rattle.words.proofs.Fill.{Filling}
use Rattle.words.proofs.put_words.Given as goal

abbrev pub invariant-loop-k : goal.invariant-loop-k
invariant-loop-k l = Filling (λ i. get_or l.v i 0) (length l.v) l.initial.s l.s l.k
