-- What the operations mean: what they leave of a stock, at each coordinate, and what their tests tell.
use Rattle.std.specs.Prelude.{ℕ, zero, suc, ◌≤◌, ◌<◌, ◌≡◌, Bool, true, List, get_or, eqb}
use Rattle.effect_one.specs.declared.One.{One}
use Rattle.effect_number.specs.Number.{pick, less}
use Rattle.effect.specs.declared.Stock.{Stock}
use Rattle.effect.specs.declared.Effect.{Effect}
use Rattle.effect.specs.Six.{six, one_at}
use Rattle.effect.specs.Apply.{apply_of}
use Rattle.effect.specs.Coordinate.{RightsWithin, Coordinate, type_of, at}

-- one stock is at most another: no right that the other has not, and no larger count
abbrev pub Below : Stock → Stock → Type 0
Below s t = (i : Coordinate) → at i s ≤ at i t

-- "One effect is at most another if its result is at most the other's for every stock."
abbrev pub AtMost : Effect → Effect → Type 0
AtMost a b = (s : Stock) → Below (apply_of a s) (apply_of b s)

-- the same of one type alone
abbrev pub BelowAt : ℕ → Stock → Stock → Type 0
BelowAt k s t = (i : Coordinate) → type_of i ≡ k → at i s ≤ at i t

abbrev pub AtMostAt : ℕ → Effect → Effect → Type 0
AtMostAt k a b = (s : Stock) → BelowAt k (apply_of a s) (apply_of b s)

-- "Comparing two stocks or effects shall name the lowest type that fails"; 6 where none does. There is no second (`one_lowest` in
-- proofs/Failing.antt).
pub record LowestFailing (Holds : ℕ → Type 0) (r : ℕ) : Type 0 where
  pub within : r ≤ 6
  pub below : (k : ℕ) → k < r → Holds k
  pub fails : r < 6 → Holds r → ⊥

-- six numbers with v for the one of type t
unfoldable pub with_at : ℕ → ℕ → List ℕ → List ℕ
with_at t v l = six (λ k. pick (eqb k t) v (get_or l k 0))

-- "A grant replaces rights and count of its type; it doesn't add."
unfoldable pub replaced : ℕ → ℕ → ℕ → Stock → Stock
replaced t p m s = record { rights = with_at t p s.rights; counts = with_at t m s.counts }

-- "A draw takes 1 from a finite count, endless stays endless." An overdraw "leaves the rights, takes 1 unless the count is 0 or endless".
unfoldable pub one_taken : ℕ → Stock → Stock
one_taken t s = record { rights = s.rights; counts = with_at t (less (get_or s.counts t 0) 1) s.counts }

-- what an effect taken n times leaves, one time after the other; 0 is read as 1
unfoldable pub again_of : Effect → ℕ → Stock → Stock
again_of e zero s = apply_of e s
again_of e (suc zero) s = apply_of e s
again_of e (suc (suc n)) s = apply_of e (again_of e (suc n) s)

-- "It covers a draw if it has every right drawn and a count of at least 1."
pub record Covers (s : Stock) (t p : ℕ) : Type 0 where
  pub a_type : t < 6
  pub every_right : RightsWithin p (get_or s.rights t 0)
  pub a_count : 1 ≤ get_or s.counts t 0

-- "Normal form: keep-in within keep-max; cap 0 has drop 256; drop 254 is written 255." A cap is at most 255, a drop at most 256.
pub record NormalAt (x : One) : Type 0 where
  pub within_max : RightsWithin x.keepin x.keepmax
  pub cap_runs : x.cap ≤ 255
  pub drop_runs : x.drop ≤ 256
  pub zero_none : x.cap ≡ 0 → x.drop ≡ 256
  pub not_254 : x.drop ≡ 254 → ⊥

abbrev pub Normal : Effect → Type 0
Normal e = (k : ℕ) → k < 6 → NormalAt (one_at e k)

-- An effect in normal form that leaves of every stock, at each coordinate, what is said; there is no second (`one_effect` in proofs/Means.antt).
pub record Leaves (e : Effect) (f : Coordinate → Stock → ℕ) : Type 0 where
  pub normal : Normal e
  pub left : (i : Coordinate) (s : Stock) → at i (apply_of e s) ≡ f i s

-- A test that is true exactly if the fact holds.
pub record Exactly (r : Bool) (P : Type 0) : Type 0 where
  pub holds : r ≡ true → P
  pub says : P → r ≡ true
