use Prim.Native.Nat.{ℕ, ◌<◌}
use mathlib.Core.Path.{◌≡◌}
use Rattle.effect_one.specs.declared.One.{One}
use Rattle.effect_one.specs.Single.{drop_only}
use Rattle.effect.proofs.Filled.{Ones}
use Rattle.sheet.proofs.effect_from_fn.Given as goal

-- to a type that the file does not have nothing is done
abbrev pub invariant-loop-k : goal.invariant-loop-k
invariant-loop-k g l =
    (f : ℕ → One) → ((k : ℕ) (x : One) → k < l.t → goal.F-post g l.one k x → x ≡ f k) → Ones f (drop_only 0) l.t l.keepin l.keepmax l.cap l.drop l.k
