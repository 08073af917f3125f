-- What the theorems are about: effects with their laws, a graph that is well formed, what its nodes do and the effects that tell of it,
-- and an opening stock.
use mathlib.Core.Path.{◌≡◌, sym}
use Prim.Native.Nat.{ℕ, ◌≤◌, ◌<◌, min}
use native.Mathlib.Nat.{le_of_eq, le_antisymm}
use native.Mathlib.Omega.{arith}
use Rattle.model.specs.Machine.{Graph, Doing}
use Rattle.model.specs.Rules.{Effects}
use Rattle.model.proofs.Formed.{Formed}

-- On each coordinate an effect is a monotone function; `then` is composition, `both` and `lower` are the smaller.
pub record Laws (W : Effects) : Type 0 where
  pub first : W.Coord
  pub apply_mono : (e : W.Effect) (i : W.Coord) (s t : W.Stock) → W.at i s ≤ W.at i t → W.at i (W.apply e s) ≤ W.at i (W.apply e t)
  pub apply_nothing : (i : W.Coord) (s : W.Stock) → W.at i (W.apply W.nothing s) ≡ W.at i s
  pub apply_then : (a b : W.Effect) (i : W.Coord) (s : W.Stock) → W.at i (W.apply (W.then a b) s) ≡ W.at i (W.apply b (W.apply a s))
  pub apply_both : (a b : W.Effect) (i : W.Coord) (s : W.Stock) → W.at i (W.apply (W.both a b) s) ≡ min (W.at i (W.apply a s)) (W.at i (W.apply b s))
  pub at_lower : (s t : W.Stock) (i : W.Coord) → W.at i (W.lower s t) ≡ min (W.at i s) (W.at i t)

-- so what an effect leaves at a coordinate depends on that coordinate alone
pub apply_same : (W : Effects) → Laws W → (e : W.Effect) (i : W.Coord) (s t : W.Stock) → W.at i s ≡ W.at i t → W.at i (W.apply e s) ≡ W.at i (W.apply e t)
apply_same W L e i s t h = le_antisymm (L.apply_mono e i s t (le_of_eq h)) (L.apply_mono e i t s (le_of_eq (sym h)))

-- and where one effect leaves less than another, so it does with a third after both
pub then_low : (W : Effects) → Laws W → (a b x : W.Effect) (i : W.Coord) (s : W.Stock) → W.at i (W.apply a s) ≤ W.at i (W.apply b s) → W.at i (W.apply (W.then a x) s) ≤ W.at i (W.apply (W.then b x) s)
then_low W L a b x i s h = omega (arith, L.apply_then a x i s, L.apply_then b x i s, L.apply_mono x i (W.apply a s) (W.apply b s) h)

-- The effect `step n` tells of the own step of the node n; and a draw is covered exactly if each coordinate that it needs is at least 1.
pub record Told (W : Effects) (D : Doing W.Stock) (step : ℕ → W.Effect) : Type 1 where
  pub act_step : (n : ℕ) (i : W.Coord) (s : W.Stock) → W.at i (D.act n s) ≡ W.at i (W.apply (step n) s)
  pub Needs : ℕ → W.Coord → Type 0
  pub enough : (n : ℕ) (s : W.Stock) → D.Covers n s → (i : W.Coord) → Needs n i → 1 ≤ W.at i s
  pub short : (n : ℕ) (s : W.Stock) → (D.Covers n s → ⊥) → (i : W.Coord) × Needs n i × (W.at i s < 1)

pub record Setting : Type 1 where
  pub W : Effects
  pub laws : Laws W
  pub G : Graph
  pub formed : Formed G
  pub D : Doing W.Stock
  pub step : ℕ → W.Effect
  pub told : Told W D step
  pub opening : W.Stock
