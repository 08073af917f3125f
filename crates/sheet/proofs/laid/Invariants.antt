use mathlib.Core.Path.{◌≡◌}
use Rattle.sheet.specs.Write.{laid_out}
use Rattle.sheet.proofs.laid.Given as goal

abbrev pub invariant-loop-k : goal.invariant-loop-k
invariant-loop-k l = l.r ≡ laid_out l.initial.r l.n l.j l.field l.k
