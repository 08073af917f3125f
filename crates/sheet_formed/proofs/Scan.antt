-- What `any` and `all` over a range say of the numbers in it, and the search for a word that is not 0.
use Prim.Native.Nat.{ℕ, ◌+◌, ◌≤◌, ◌<◌}
use mathlib.Core.Path.{◌≡◌, refl, sym, ap, subst, ◌∙◌}
use mathlib.Core.Bool.{Bool, true, false, not, true≢false}
use mathlib.Core.List.{List}
use lib.Dec.{ltb}
use lib.ListN.{length, get_or}
use borrow.Author.Tests.{le-ltb, eq-eqb}
use native.Mathlib.Nat.{le_refl}
use native.Mathlib.Omega.{arith}
use Rattle.std.specs.Prelude.{MatchBool}
use Rattle.std.specs.List.{range_with_len, AllWithin, HoldsAt}
use Rattle.std.proofs.lemmas.List.FromFn.{length-range_with_len, get_or-range_with_len}
use Rattle.words.specs.Lowest.{lowest}
use Rattle.words.proofs.Lowest.{NoneBelow, lowest_none, none_found}
use Rattle.sheet.specs.Read.{sheet_word}
use Rattle.sheet_formed.specs.Ill.{not_zero, some_word}

abbrev numbers : ℕ → List ℕ
numbers n = range_with_len 0 n

module _ (P : ℕ → Type 0) (n : ℕ) where
  at : (k : ℕ) → k < n → P (get_or (numbers n) k 0) → P k
  at k l h = let e : get_or (numbers n) k 0 ≡ k = omega (arith, get_or-range_with_len 0 n k 0 l) in subst P e h

  each_there : AllWithin P (numbers n) 0 (length (numbers n)) → (k : ℕ) → k < n → P k
  each_there h k l = at k l (h k 0 (omega arith) (omega (arith, length-range_with_len 0 n)))

  one_there : (k : ℕ) × (k < length (numbers n)) × HoldsAt P (numbers n) k → (k : ℕ) × (k < n) × P k
  one_there h = let l : h.0 < n = omega (arith, h.1, length-range_with_len 0 n) in (h.0, l, at h.0 l (h.2 0))

-- `cases_from_any` and `cases_from_all` of the library read the clauses
module _ (Yes No : ℕ → Type 0) (n : ℕ) where
  pub any_within : (r : Bool) → MatchBool r ((k : ℕ) × (k < length (numbers n)) × HoldsAt Yes (numbers n) k) (AllWithin No (numbers n) 0 (length (numbers n)))
      → MatchBool r ((k : ℕ) × (k < n) × Yes k) ((k : ℕ) → k < n → No k)
  any_within true h = one_there Yes n h
  any_within false h = each_there No n h

  pub all_within : (r : Bool) → MatchBool r (AllWithin Yes (numbers n) 0 (length (numbers n))) ((k : ℕ) × (k < length (numbers n)) × HoldsAt No (numbers n) k)
      → MatchBool r ((k : ℕ) → k < n → Yes k) ((k : ℕ) × (k < n) × No k)
  all_within true h = each_there Yes n h
  all_within false h = one_there No n h

module _ (s : List ℕ) (w n : ℕ) where
  pub some_found : (k : ℕ) → k < n → not_zero s w k ≡ true → true ≡ some_word s w n
  unfolding some_word
  some_found k l h = go (ltb (lowest (not_zero s w) n) n) refl
    where
      go : (b : Bool) → ltb (lowest (not_zero s w) n) n ≡ b → true ≡ b
      go true q = refl
      go false q = absurd (true≢false (sym h ∙ none_found (not_zero s w) n q k l))

  pub some_none : (k : ℕ) → NoneBelow (not_zero s w) k → n ≤ k → false ≡ some_word s w n
  unfolding some_word
  some_none k before l =
      let q = lowest_none (not_zero s w) n (λ i u. before i (omega arith)) in
      rw q (sym (le-ltb n n (le_refl n)))

  -- what `any` over the words gives
  pub some_is : (r : Bool) → MatchBool r ((k : ℕ) × (k < n) × (not_zero s w k ≡ true)) (NoneBelow (not_zero s w) n) → r ≡ some_word s w n
  some_is true h = some_found h.0 h.1 h.2
  some_is false h = some_none n h (le_refl n)

pub zero_there : (s : List ℕ) (w k : ℕ) → sheet_word s (w + k) ≡ 0 → not_zero s w k ≡ false
zero_there s w k h = ap not (eq-eqb (sheet_word s (w + k)) 0 h)
