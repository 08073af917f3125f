use Prim.Native.Nat.{ℕ, ◌<◌}
use mathlib.Core.Path.{◌≡◌}
use Rattle.effect_one.specs.declared.One.{One}
use Rattle.effect.proofs.Filled.{Ones, unfilled}
use Rattle.effect.proofs.effect_of.Given as goal

abbrev pub invariant-loop-k : goal.invariant-loop-k
invariant-loop-k g l =
    (f : ℕ → One) → ((k : ℕ) (x : One) → k < 6 → goal.F-post g l.one k x → x ≡ f k) → Ones f unfilled 6 l.e.keepin l.e.keepmax l.e.cap l.e.drop l.k
