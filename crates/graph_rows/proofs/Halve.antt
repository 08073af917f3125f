-- Halving a sorted table finds the lowest row whose key is at least x.
use mathlib.Core.Path.{◌≡◌, refl, sym}
use mathlib.Core.Bool.{Bool, true, false}
use Prim.Native.Nat.{ℕ, ◌+◌, ◌<◌, ◌≤◌}
use native.Mathlib.Omega.{arith}
use lib.Dec.{leb, ltb}
use borrow.Author.Tests.{ltb-true, ltb-false, lt-leb}
use Rattle.words.specs.Lowest.{lowest}
use Rattle.words.proofs.Lowest.{NoneBelow, lowest_is, lowest_none}

-- the row's key is at least x
abbrev pub AtLeast : (ℕ → ℕ) → ℕ → ℕ → Bool
AtLeast key x k = leb x (key k)

-- where the key of a row is less than x, so is that of each row before
pub less_below : (key : ℕ → ℕ) (n x m : ℕ) → ((i k : ℕ) → i ≤ k → k < n → key i ≤ key k) → m < n → key m < x → NoneBelow (AtLeast key x) (m + 1)
less_below key n x m h l u k v =
    let w : key k ≤ key m = h k m (omega arith) l in
    lt-leb x (key k) (omega arith)

-- the search has closed in on one row
pub closed : (p : ℕ → Bool) {n m low high : ℕ} → n ≡ m → low ≤ high → high ≤ low → high ≤ n → NoneBelow p low → (high < n → p high ≡ true) → low ≡ lowest p m
closed p {n} {m} {low} {high} q a b c none found = rw (← q) (go (ltb high n) refl)
  where
    same : low ≡ high
    same = omega arith

    go : (t : Bool) → ltb high n ≡ t → low ≡ lowest p n
    go true e =
        let l : high < n = ltb-true high n e in
        sym (lowest_is p n low none (omega arith) (rw same (found l)))
    go false e =
        let l : n ≤ high = ltb-false high n e in
        let s : low ≡ n = omega arith in
        rw s (sym (lowest_none p n (rw s at none)))
