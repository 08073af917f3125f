-- What `any` over a range says where it is false, of the numbers in it and not of a list: `cases_from_any` of the library reads the clause.
use Prim.Native.Nat.{ℕ, ◌-◌, ◌≤◌, ◌<◌}
use mathlib.Core.Path.{◌≡◌, subst}
use mathlib.Core.Bool.{Bool, false}
use native.Mathlib.Omega.{arith}
use lib.ListN.{length, get_or}
use Rattle.std.specs.Prelude.{MatchBool}
use Rattle.std.specs.List.{range_with_len, AllWithin}
use Rattle.std.proofs.lemmas.List.FromFn.{length-range_with_len, get_or-range_with_len}

pub none_within : (from to : ℕ) (Some : Type 0) (No : ℕ → Type 0) (r : Bool)
    → MatchBool r Some (AllWithin No (range_with_len from (to - from)) 0 (length (range_with_len from (to - from)))) → r ≡ false → (k : ℕ) → from ≤ k → k < to → No k
none_within from to Some No r m e k p q =
    let all = range_with_len from (to - from) in
    let none : AllWithin No all 0 (length all) = subst (λ b. MatchBool b Some (AllWithin No all 0 (length all))) e m in
    let at : get_or all (k - from) 0 ≡ k = omega (arith, get_or-range_with_len from (to - from) (k - from) 0 (omega arith)) in
    subst No at (none (k - from) 0 (omega arith) (omega (arith, length-range_with_len from (to - from))))
