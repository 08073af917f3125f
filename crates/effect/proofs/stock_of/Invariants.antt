use Prim.Native.Nat.{ℕ, ◌<◌}
use mathlib.Core.Path.{◌≡◌}
use Rattle.effect_one.specs.declared.Held.{Held}
use Rattle.effect.proofs.Filled.{Helds}
use Rattle.effect.proofs.stock_of.Given as goal

abbrev pub invariant-loop-k : goal.invariant-loop-k
invariant-loop-k g l = (f : ℕ → Held) → ((k : ℕ) (h : Held) → k < 6 → goal.F-post g l.held k h → h ≡ f k) → Helds f l.s.rights l.s.counts l.k
