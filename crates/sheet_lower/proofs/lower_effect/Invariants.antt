use mathlib.Core.Path.{◌≡◌}
use lib.ListN.{length}
use Rattle.sheet.specs.Read.{marked}
use Rattle.sheet_lower.specs.Lowered.{lowered_effect}
use Rattle.sheet_lower.proofs.Turn.{Laid}
use Rattle.sheet_lower.proofs.lower_effect.Given as goal

abbrev pub invariant-loop-k : goal.invariant-loop-k
invariant-loop-k l =
    (length l.s ≡ length l.initial.s)
    × (l.old ≡ marked l.initial.s l.w)
    × Laid (lowered_effect l.initial.s l.t l.w l.e) l.initial.s l.w l.k l.s
