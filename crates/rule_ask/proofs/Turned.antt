-- The steps of a walk backwards: each row comes once.
use Prim.Native.Nat.{ℕ, ◌<◌}
use mathlib.Core.Path.{◌≡◌, refl}
use mathlib.Core.Bool.{Bool, true, false}
use native.Mathlib.Omega.{arith}
use Rattle.rule_ask.specs.Gives.{turned}

-- the turned step is one of the n, and turned again it is the first
pub turned_inside : (backwards : Bool) (n k : ℕ) → k < n → turned backwards n k < n
turned_inside true n k l = omega arith
turned_inside false n k l = l

pub turned_twice : (backwards : Bool) (n k : ℕ) → k < n → turned backwards n (turned backwards n k) ≡ k
turned_twice true n k l = omega arith
turned_twice false n k l = refl
