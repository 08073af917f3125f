-- What it says that a row is above another.
use mathlib.Core.Path.{◌≡◌}
use mathlib.Core.Bool.{true, false≢true}
use mathlib.Core.Logic.{◌⊎◌, inl, inr, ⊎_elim}
use mathlib.Core.List.{List, [], ◌∷◌}
use Prim.Native.Nat.{ℕ, zero, suc, ◌-◌, ◌<◌, ◌≤◌}
use native.Mathlib.Omega.{arith}
use native.Mathlib.Decide.{ℕ_discrete}
use native.Mathlib.Numerals.{unary_clauses}
use lib.Dec.{ltb, eqb}
use borrow.Author.Tests.{ltb-true, eqb-true, lt-ltb, eq-eqb}
use Rattle.words.proofs.Tests.{either, or_l, or_r}
use Rattle.graph_refuse.specs.Bad.{above}

-- the first field is above, or they are equal and the rest is above
pub split_above : (a b : ℕ) (r s : List ℕ) → above (a ∷ r) (b ∷ s) ≡ true → (b < a) ⊎ ((a ≡ b) × (above r s ≡ true))
unfolding above
split_above a b r s h = go (either (ltb b a) (eqb a b) (above r s) h)
  where
    go : (ltb b a ≡ true) ⊎ ((eqb a b ≡ true) × (above r s ≡ true)) → (b < a) ⊎ ((a ≡ b) × (above r s ≡ true))
    go (inl e) = inl (ltb-true b a e)
    go (inr w) = inr (eqb-true a b w.0, w.1)

-- so a row's first field is at least that of the row below it,
pub pair_rises : (a b c d : ℕ) → above (a ∷ b ∷ []) (c ∷ d ∷ []) ≡ true → c ≤ a
pair_rises a b c d h = ⊎_elim (λ w. omega arith) (λ w. omega arith) (split_above a c (b ∷ []) (d ∷ []) h)

-- and of three fields the first two, as a pair, are at least those of the row below it
pub triple_rises : (a b c a' b' c' : ℕ) → above (a ∷ b ∷ c ∷ []) (a' ∷ b' ∷ c' ∷ []) ≡ true → (a' < a) ⊎ ((a ≡ a') × (b' ≤ b))
triple_rises a b c a' b' c' h = ⊎_elim (λ w. inl w) (λ w. inr (w.0, pair_rises b c b' c' w.1)) (split_above a a' (b ∷ c ∷ []) (b' ∷ c' ∷ []) h)

-- and the other way round
above_first : (a b : ℕ) (r s : List ℕ) → b < a → above (a ∷ r) (b ∷ s) ≡ true
unfolding above
above_first a b r s l = or_l _ _ (lt-ltb b a l)

above_rest : (a b : ℕ) (r s : List ℕ) → a ≡ b → above r s ≡ true → above (a ∷ r) (b ∷ s) ≡ true
unfolding above
above_rest a b r s e h = or_r (ltb b a) _ (simp (eq-eqb a b e, h))

-- no row is above itself, and a row above another is above all that are below that
pub not_above_itself : (r : List ℕ) → above r r ≡ true → ⊥
unfolding above
not_above_itself [] h = false≢true h
not_above_itself (a ∷ r) h = ⊎_elim (λ w. omega arith) (λ w. not_above_itself r w.1) (split_above a a r r h)

pub above_trans : (r s t : List ℕ) → above r s ≡ true → above s t ≡ true → above r t ≡ true
unfolding above
above_trans [] s t p q = absurd (false≢true p)
above_trans (a ∷ r) [] t p q = absurd (false≢true p)
above_trans (a ∷ r) (b ∷ s) [] p q = absurd (false≢true q)
above_trans (a ∷ r) (b ∷ s) (c ∷ t) p q =
    ⊎_elim
    (λ u. ⊎_elim (λ v. above_first a c r t (omega arith)) (λ v. above_first a c r t (omega (arith, v.0))) (split_above b c s t q))
    (λ u. ⊎_elim (λ v. above_first a c r t (omega (arith, u.0)))
    (λ v. above_rest a c r t (omega (arith, u.0, v.0)) (above_trans r s t u.1 v.1)) (split_above b c s t q))
    (split_above a b r s p)

-- row k is above the row before, where there is one
abbrev pub Rises : (ℕ → List ℕ) → ℕ → Type 0
Rises row k = (k ≡ 0 → ⊥) → above (row k) (row (k - 1)) ≡ true

-- where each row is, each is above all the rows before it, and no row comes twice
module _ (row : ℕ → List ℕ) (n : ℕ) (h : (k : ℕ) → k < n → Rises row k) where
  pub all_rise : (i k : ℕ) → i < k → k < n → above (row k) (row i) ≡ true
  all_rise i zero l u = absurd (omega arith)
  all_rise i (suc k) l u =
      let w : above (row (suc k)) (row k) ≡ true = simp unary_clauses at (h (suc k) u (λ z. omega arith)) in
      elim (ℕ_discrete i k) [
        | yes e ↦ rw e w
        | no e ↦ above_trans (row (suc k)) (row k) (row i) w (all_rise i k (omega arith) (omega arith))
      ]

  pub none_twice : (i k : ℕ) → i < k → k < n → row i ≡ row k → ⊥
  none_twice i k l u e = not_above_itself (row k) (rw e at (all_rise i k l u))
