-- Effects and stocks field by field, for whoever holds them in words: nothing done to a type, and how small their potential is.
use Prim.Native.Nat.{ℕ, ◌<◌, ◌≤◌}
use mathlib.Core.Path.{◌≡◌, refl}
use mathlib.Core.Bool.{Bool, true, false}
use lib.ListN.{get_or}
use lib.Dec.{eqb}
use native.Mathlib.Omega.{arith}
use Rattle.effect_one.specs.Single.{idle}
use Rattle.effect.specs.declared.Stock.{Stock}
use Rattle.effect.specs.declared.Effect.{Effect}
use Rattle.effect.specs.Six.{one_at, held_at}
use Rattle.effect.proofs.Potential.{sum_six, pot_count, pot_one, pot_of, pot_held, pot_stock}

-- "Nothing done: 0, all bits, cap 255, drop 0"
pub record IdleAt (e : Effect) (k : ℕ) : Type 0 where
  pub keepin : get_or e.keepin k 0 ≡ 0
  pub keepmax : get_or e.keepmax k 0 ≡ 65535
  pub cap : get_or e.cap k 0 ≡ 255
  pub drop : get_or e.drop k 0 ≡ 0

module _ (e : Effect) (k : ℕ) where
  pub idle_fields : one_at e k ≡ idle → IdleAt e k
  unfolding idle
  idle_fields q = record { keepin = λ i. (q i).keepin; keepmax = λ i. (q i).keepmax; cap = λ i. (q i).cap; drop = λ i. (q i).drop }

  pub fields_idle : IdleAt e k → one_at e k ≡ idle
  unfolding idle
  fields_idle f = λ i. record { keepin = f.keepin i; keepmax = f.keepmax i; cap = f.cap i; drop = f.drop i }

-- rights that are words make for a small potential
six_small : (f : ℕ → ℕ) → ((k : ℕ) → k < 6 → f k < 150000) → sum_six f < 1000000
six_small f h =
    omega (arith, h 0 (omega arith), h 1 (omega arith), h 2 (omega arith), h 3 (omega arith), h 4 (omega arith), h 5 (omega arith))

count_small : (c d : ℕ) → pot_count c d ≤ 512
unfolding pot_count
count_small c d = go (eqb c 0) refl
  where
    go : (z : Bool) → eqb c 0 ≡ z → pot_count c d ≤ 512
    go true q = rw q (omega arith)
    go false q = rw q (omega arith)

pub effect_small : (e : Effect) → ((k : ℕ) → k < 6 → get_or e.keepin k 0 < 65536) → ((k : ℕ) → k < 6 → get_or e.keepmax k 0 < 65536) → pot_of e < 1000000
unfolding pot_of
effect_small e p q =
    six_small (λ k. pot_one (one_at e k)) (λ k l. omega (arith, p k l, q k l, count_small (get_or e.cap k 0) (get_or e.drop k 0)))

pub stock_small : (h : Stock) → ((k : ℕ) → k < 6 → get_or h.rights k 0 < 65536) → pot_stock h < 1000000
unfolding pot_stock
stock_small h p = six_small (λ k. pot_held (held_at h k)) (λ k l. omega (arith, p k l))
