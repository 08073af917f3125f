-- The lowest type at which a comparison fails: what the number says, and what the test of one type says of that type's coordinates.
--   the test of one type   at_most_type, held_type
--   the number             fails_lowest, stock_fails_lowest, by the tests; fails_means, stock_fails_means, by the meaning
--   6                      fails_none, stock_fails_none
use Prim.Native.Nat.{ℕ, ◌<◌}
use mathlib.Core.Path.{◌≡◌, refl, sym, ◌∙◌}
use mathlib.Core.Bool.{Bool, true, false, not}
use native.Mathlib.Omega.{arith}
use native.Mathlib.Decide.{dec_lt}
use lib.Dec.{eqb}
use borrow.Author.Tests.{eq-eqb, ne_eqb}
use Rattle.words.proofs.Lowest.{is_lowest}
use Rattle.effect_one.specs.Formulas.{at_most_one, held_at_most}
use Rattle.effect.specs.declared.Stock.{Stock}
use Rattle.effect.specs.declared.Effect.{Effect}
use Rattle.effect.specs.Six.{all_six, held_at, one_at}
use Rattle.effect.specs.Whole.{lowest_not, apply_of, at_most_of, stock_at_most_of, fails_of, stock_fails_of}
use Rattle.effect.specs.Meaning.{BelowAt, AtMostAt, LowestFailing, Exactly}
use Rattle.effect.proofs.Bools.{clash}
use Rattle.effect.proofs.Six.{all_i, all_e}
use Rattle.effect.proofs.Single.{held_sound, held_complete}
use Rattle.effect.proofs.Laws.{Words, one_at_most, at_most_one_lem}
use Rattle.effect.proofs.Coordinate.{below_at, at_below, applied_word}

-- the test of one type is the meaning at that type's coordinates
pub at_most_type : (a b : Effect) (k : ℕ) → k < 6 → (one_at a k).keepmax < 65536 → Exactly (at_most_one (one_at a k) (one_at b k)) (AtMostAt k a b)
at_most_type a b k h w =
    record {
      holds = λ t s. below_at (apply_of a s) (apply_of b s) k (one_at_most a b k h t s);
      says = λ q. at_most_one_lem a b k h (λ s. at_below (apply_of a s) (apply_of b s) k h (applied_word a s k h w) (q s));
    }

pub held_type : (s t : Stock) (k : ℕ) → k < 6 → (held_at s k).rights < 65536 → Exactly (held_at_most (held_at s k) (held_at t k)) (BelowAt k s t)
held_type s t k h w =
    record {
      holds = λ p. below_at s t k (held_sound (held_at s k) (held_at t k) p);
      says = λ q. held_complete (held_at s k) (held_at t k) (at_below s t k h w q);
    }

-- no second number is the lowest
pub one_lowest : {P : ℕ → Type 0} {r q : ℕ} → LowestFailing P r → LowestFailing P q → r ≡ q
one_lowest {P} {r} {q} u v = elim (dec_lt r q) [
  | yes l ↦ absurd (u.fails (omega (arith, v.within)) (v.below r l))
  | no l ↦ elim (dec_lt q r) [
    | yes m ↦ absurd (v.fails (omega (arith, u.within)) (u.below q m))
    | no m ↦ omega arith
  ]
]

-- it is the same of a test and of what the test tells
told : {P : ℕ → Type 0} {f : ℕ → Bool} {r : ℕ} → ((k : ℕ) → k < 6 → Exactly (f k) (P k)) → LowestFailing (λ k. f k ≡ true) r → LowestFailing P r
told {r = r} e w =
    record {
      within = w.within;
      below = λ k l. (e k (omega (arith, w.within))).holds (w.below k l);
      fails = λ l p. w.fails l ((e r l).says p);
    }

module _ (f : ℕ → Bool) where
  not_true : (k : ℕ) → not (f k) ≡ true → f k ≡ true → ⊥
  not_true k p q = clash true refl (sym p ∙ simp q)

  not_false : (b : Bool) → not b ≡ false → b ≡ true
  not_false true p = refl
  not_false false p = absurd (clash true refl p)

  lowest_not_lem : LowestFailing (λ k. f k ≡ true) (lowest_not f)
  lowest_not_lem =
      let w = is_lowest (λ k. not (f k)) 6 in
      record { within = w.within; below = λ k l. not_false (f k) (w.before k l); fails = λ l. not_true (lowest_not f) (w.found l) }

  -- 6 is said exactly if the test holds at all six
  none_fails : eqb (lowest_not f) 6 ≡ all_six f
  none_fails = go (all_six f) refl
    where
      go : (b : Bool) → all_six f ≡ b → eqb (lowest_not f) 6 ≡ b
      go true p = eq-eqb (lowest_not f) 6 (one_lowest lowest_not_lem (record { within = omega arith; below = all_e f p; fails = λ l q. omega arith }))
      go false p = ne_eqb (lowest_not f) 6 (λ e. clash _ (all_i f (λ k l. lowest_not_lem.below k (omega arith))) p)

module _ (a b : Effect) where
  pub fails_lowest : LowestFailing (λ k. at_most_one (one_at a k) (one_at b k) ≡ true) (fails_of a b)
  unfolding fails_of
  fails_lowest = lowest_not_lem (λ k. at_most_one (one_at a k) (one_at b k))

  pub fails_means : Words a → LowestFailing (λ k. AtMostAt k a b) (fails_of a b)
  fails_means w = told (λ k h. at_most_type a b k h (w k h)) fails_lowest

  pub fails_none : eqb (fails_of a b) 6 ≡ at_most_of a b
  unfolding fails_of at_most_of
  fails_none = none_fails (λ k. at_most_one (one_at a k) (one_at b k))

module _ (s t : Stock) where
  pub stock_fails_lowest : LowestFailing (λ k. held_at_most (held_at s k) (held_at t k) ≡ true) (stock_fails_of s t)
  unfolding stock_fails_of
  stock_fails_lowest = lowest_not_lem (λ k. held_at_most (held_at s k) (held_at t k))

  pub stock_fails_means : ((k : ℕ) → k < 6 → (held_at s k).rights < 65536) → LowestFailing (λ k. BelowAt k s t) (stock_fails_of s t)
  stock_fails_means w = told (λ k h. held_type s t k h (w k h)) stock_fails_lowest

  pub stock_fails_none : eqb (stock_fails_of s t) 6 ≡ stock_at_most_of s t
  unfolding stock_fails_of stock_at_most_of
  stock_fails_none = none_fails (λ k. held_at_most (held_at s k) (held_at t k))
