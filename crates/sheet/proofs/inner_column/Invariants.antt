use Prim.Native.Nat.{◌+◌, ◌*◌}
use mathlib.Core.Path.{◌≡◌}
use Rattle.effect.specs.Six.{six}
use Rattle.sheet.specs.Read.{sheet_word}
use Rattle.effect.proofs.Filled.{up_to}
use Rattle.sheet.proofs.inner_column.Given as goal

abbrev pub invariant-loop-k : goal.invariant-loop-k
invariant-loop-k l = l.c ≡ six (up_to (λ i. sheet_word l.s (l.w + (l.j + l.n * i))) l.none l.k)
