-- Document 01's stocks and effects have the laws that the theorems ask for, and the steps of its nodes are told of by their effects.
use mathlib.Core.Path.{◌≡◌, sym}
use Prim.Native.Nat.{ℕ, ◌≤◌, ◌<◌}
use native.Mathlib.Omega.{arith}
use Rattle.effect.specs.declared.Stock.{Stock}
use Rattle.effect.specs.Whole.{apply_of}
use Rattle.effect.specs.Coordinate.{Coordinate, count, at}
use Rattle.effect.proofs.Coordinate.{apply_mono, apply_nothing, apply_then, apply_both, at_lower, apply_grant, apply_draw, Asked, covers_asked, uncovered}
use Rattle.model.specs.Stocks.{permits, Does, plain, grant, draw, done, Covered, doing, step_of}
use Rattle.model.proofs.Setting.{Laws, Told}

pub laws : Laws permits
laws = record {
  first = count 0 (omega arith);
  apply_mono = apply_mono;
  apply_nothing = apply_nothing;
  apply_then = apply_then;
  apply_both = apply_both;
  at_lower = λ s t i. at_lower i s t;
}

act_step : (d : Does) (i : Coordinate) (s : Stock) → at i (done d s) ≡ at i (apply_of (step_of d) s)
unfolding done step_of
act_step plain i s = sym (apply_nothing i s)
act_step (grant t p m) i s = sym (apply_grant t p m i s)
act_step (draw t p) i s = sym (apply_draw t i s)

-- the coordinates that what a node does asks for
data Needs : Does → Coordinate → Type 0 where
  of_draw : {t p : ℕ} {i : Coordinate} → Asked t p i → Needs (draw t p) i

enough : (d : Does) (s : Stock) → Covered d s → (i : Coordinate) → Needs d i → 1 ≤ at i s
enough plain s c i h = elim h [ ]
enough (grant t p m) s c i h = elim h [ ]
enough (draw t p) s c i (of_draw a) = covers_asked s t p c i a

-- A draw is of one of the six types, and of rights that are a word.
abbrev pub Fits : Does → Type 0
Fits plain = Unit {0}
Fits (grant t p m) = Unit {0}
Fits (draw t p) = (t < 6) × (p < 65536)

short : (d : Does) → Fits d → (s : Stock) → (Covered d s → ⊥) → (i : Coordinate) × Needs d i × (at i s < 1)
short plain f s u = absurd (u tt)
short (grant t p m) f s u = absurd (u tt)
short (draw t p) f s u = let h = uncovered s t p f.0 f.1 u in (h.0, of_draw h.1, h.2)

pub told : (does : ℕ → Does) → ((n : ℕ) → Fits (does n)) → Told permits (doing does) (λ n. step_of (does n))
told does fits = record {
  act_step = λ n. act_step (does n);
  Needs = λ n. Needs (does n);
  enough = λ n. enough (does n);
  short = λ n. short (does n) (fits n);
}
