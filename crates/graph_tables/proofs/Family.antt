-- Climbing finds the nearest of a family, of which there is one at most.
use Prim.Native.Nat.{ℕ, zero, suc, ◌<◌, ◌≤◌}
use mathlib.Core.Path.{◌≡◌, refl, sym, subst, ◌∙◌}
use mathlib.Core.Bool.{Bool, true, false, cond, ◌||◌}
use mathlib.Core.List.{List}
use native.Mathlib.Omega.{arith}
use native.Mathlib.Decide.{dec_lt}
use lib.Dec.{leb}
use borrow.Author.Tests.{le-leb, lt-leb, leb-false}
use Rattle.words.proofs.Tests.{neither, or_l, or_r}
use Rattle.graph_tables.specs.declared.Tables.{Tables}
use Rattle.graph_tables.specs.Fields.{parent_of}
use Rattle.graph_tables.specs.Family.{Nearest, own, above, climb, nearest}

module _ (f : List ℕ) (t : Tables) where
  module _ (p : ℕ → Bool) where
    -- no step leads on from a kind for which the test holds, or which has no parent,
    stops : (k e : ℕ) → (p e || leb e (parent_of f t e)) ≡ true → climb f t p k e ≡ e
    unfolding climb
    stops zero e h = refl
    stops (suc k) e h = simp h

    -- and from a kind e there are at most e steps
    one_more : (k e : ℕ) → e ≤ k → climb f t p (suc k) e ≡ climb f t p k e
    unfolding climb
    one_more zero e l = stops (suc zero) e (or_r (p e) _ (le-leb e (parent_of f t e) (omega arith)))
    one_more (suc k) e l = go (p e || leb e (parent_of f t e)) refl (λ u. one_more k (parent_of f t e) (omega arith))
      where
        go : (b : Bool) → (p e || leb e (parent_of f t e)) ≡ b → (parent_of f t e < e → climb f t p (suc k) (parent_of f t e) ≡ climb f t p k (parent_of f t e))
            → cond b e (climb f t p (suc k) (parent_of f t e)) ≡ cond b e (climb f t p k (parent_of f t e))
        go true q up = refl
        go false q up = up (leb-false e (parent_of f t e) (neither (p e) _ q).1)

    enough : (k e : ℕ) → e ≤ k → climb f t p k e ≡ nearest f t p e
    unfolding climb nearest
    enough zero e l = sym (stops e e (or_r (p e) _ (le-leb e (parent_of f t e) (omega arith))))
    enough (suc k) e l = elim (dec_lt k e) [
      | yes m ↦ let q : suc k ≡ e = omega arith in λ i. climb f t p (q i) e
      | no m ↦ one_more k e (omega arith) ∙ enough k e (omega arith)
    ]

    -- so climbing goes by the kind itself where the test holds, by its parent where it does not, and ends where there is no parent
    pub nearest_here : (e : ℕ) → p e ≡ true → nearest f t p e ≡ e
    unfolding nearest
    nearest_here e h = stops e e (or_l _ _ h)

    pub nearest_up : (e : ℕ) → p e ≡ false → parent_of f t e < e → nearest f t p e ≡ nearest f t p (parent_of f t e)
    unfolding climb nearest
    nearest_up e h l = sym (one_more e e (omega arith)) ∙ simp (h, lt-leb e (parent_of f t e) l) (enough e (parent_of f t e) (omega arith))

    pub nearest_last : (e : ℕ) → e ≤ parent_of f t e → nearest f t p e ≡ e
    unfolding nearest
    nearest_last e l = stops e e (or_r (p e) _ (le-leb e (parent_of f t e) l))

  module _ {P : ℕ → Type 0} where
    pub nearest_holds : {e c : ℕ} → Nearest f t P e c → P c
    nearest_holds (own h) = h
    nearest_holds (above h l r) = nearest_holds r

    pub nearest_le : {e c : ℕ} → Nearest f t P e c → c ≤ e
    nearest_le (own h) = omega arith
    nearest_le (above h l r) = omega (arith, nearest_le r)

    -- one at most
    pub nearest_one : {e c d : ℕ} → Nearest f t P e c → Nearest f t P e d → c ≡ d
    nearest_one (own h) (own k) = refl
    nearest_one (own h) (above k l r) = absurd (k h)
    nearest_one (above h l r) (own k) = absurd (h k)
    nearest_one (above h l r) (above k m s) = nearest_one r s

    -- where the test says of each kind up to `top` whether P holds, climbing finds it,
    module _ (p : ℕ → Bool) (top : ℕ) (says : (a : ℕ) → a ≤ top → p a ≡ true → P a) (denies : (a : ℕ) → a ≤ top → p a ≡ false → P a → ⊥) where
      holds : (a : ℕ) → a ≤ top → P a → p a ≡ true
      holds a l h = go (p a) refl
        where
          go : (b : Bool) → p a ≡ b → p a ≡ true
          go true q = q
          go false q = absurd (denies a l q h)

      fails : (a : ℕ) → a ≤ top → (P a → ⊥) → p a ≡ false
      fails a l h = go (p a) refl
        where
          go : (b : Bool) → p a ≡ b → p a ≡ false
          go true q = absurd (h (says a l q))
          go false q = q

      pub nearest_is : {e c : ℕ} → e ≤ top → Nearest f t P e c → nearest f t p e ≡ c
      nearest_is {e} l (own h) = nearest_here p e (holds e l h)
      nearest_is {e} l (above h u r) = nearest_up p e (fails e l h) u ∙ nearest_is (omega arith) r

      -- and what it finds is the nearest, where the test holds of it
      climb_finds : (k e : ℕ) → e ≤ top → p (climb f t p k e) ≡ true → Nearest f t P e (climb f t p k e)
      unfolding climb
      climb_finds zero e l h = own (says e l h)
      climb_finds (suc k) e l h = go (p e || leb e (parent_of f t e)) refl h (λ u. climb_finds k (parent_of f t e) (omega arith))
        where
          last : ℕ
          last = climb f t p k (parent_of f t e)

          go : (b : Bool) → (p e || leb e (parent_of f t e)) ≡ b → p (cond b e last) ≡ true → (parent_of f t e < e → p last ≡ true → Nearest f t P (parent_of f t e) last) → Nearest f t P e (cond b e last)
          go true q h up = own (says e l h)
          go false q h up =
              let w = neither (p e) _ q in
              let u = leb-false e (parent_of f t e) w.1 in
              above (denies e l w.0) u (up u h)

      pub is_nearest : (e : ℕ) → e ≤ top → p (nearest f t p e) ≡ true → Nearest f t P e (nearest f t p e)
      unfolding nearest
      is_nearest e l h = climb_finds e e l h

      pub none_nearest : {e c : ℕ} → e ≤ top → p (nearest f t p e) ≡ false → Nearest f t P e c → ⊥
      none_nearest {e} {c} l h r = denies c (omega (arith, nearest_le r)) (subst (λ a. p a ≡ false) (nearest_is l r) h) (nearest_holds r)
