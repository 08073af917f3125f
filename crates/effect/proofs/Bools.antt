-- Tests joined by `&&` and `||`, taken apart and put together.
use Prim.Native.Nat.{ℕ}
use native.Mathlib.Omega.{arith}
use mathlib.Core.Bool.{Bool, true, false, ◌&&◌, ◌||◌}
use mathlib.Core.Path.{◌≡◌, refl}
use mathlib.Core.Logic.{◌⊎◌, inl, inr}

pub and_l : (a b : Bool) → a && b ≡ true → a ≡ true
and_l true b e = refl
and_l false b e = e

pub and_r : (a b : Bool) → a && b ≡ true → b ≡ true
and_r true b e = e
and_r false b e = cc

pub and_i : {a b : Bool} → a ≡ true → b ≡ true → a && b ≡ true
and_i p q = cc

pub or_e : (a b : Bool) → a || b ≡ true → (a ≡ true) ⊎ (b ≡ true)
or_e true b e = inl refl
or_e false b e = inr e

pub or_l : {a : Bool} (b : Bool) → a ≡ true → a || b ≡ true
or_l b p = cc

pub or_r : (a : Bool) {b : Bool} → b ≡ true → a || b ≡ true
or_r true q = refl
or_r false q = q

pub and_no : (a b : Bool) → (a && b) ≡ false → (a ≡ false) ⊎ (b ≡ false)
and_no true b e = inr e
and_no false b e = inl refl

pub clash : (t : Bool) → t ≡ true → t ≡ false → ⊥
clash t p q = let z : ◌≡◌ {A = ℕ} 0 1 = cc in omega arith
