-- The types that check names. Of 12 it is one of the file's, or 6, and then the rule is broken by marks alone: where blocks have theirs, it is
-- obeyed at every type. Of 13 it is one of the file's.
--   named_type, overdrawn_type
use Prim.Native.Nat.{ℕ, ◌<◌}
use mathlib.Core.Path.{◌≡◌, sym, subst, ◌∙◌}
use mathlib.Core.Logic.{◌⊎◌, inl, inr, ⊎_elim}
use mathlib.Core.List.{List}
use native.Mathlib.Decide.{dec_lt}
use native.Mathlib.Omega.{arith}
use Rattle.answer.specs.declared.Answer.{Answer}
use Rattle.answer.specs.Number.{number_of, type_of, place_of}
use Rattle.graph_tables.specs.Trailer.{tables_of}
use Rattle.graph.specs.Judge.{judge_of}
use Rattle.graph.proofs.Passed.{judge_few}
use Rattle.rule_test.specs.Sheet.{HoldsAt, stock_in}
use Rattle.rule_test.proofs.Types.{types_kept}
use Rattle.accept.specs.Meaning.{Checks, refused, wrong_length, ill_formed, broken, overdrawn, accepted}
use Rattle.accept.proofs.Draws.{drawn_type}

module _ (f s : List ℕ) where
  -- 10 to 14 are not the file's
  not_file : {n : ℕ} → number_of (judge_of f) ≡ n → 9 < n → n < 15 → ⊥
  not_file e l u = ⊎_elim (λ w. omega arith) (⊎_elim (λ w. omega arith) (λ w. omega arith)) (judge_few f (tables_of f))

  pub named_type : {a : Answer} → Checks f s a → number_of a ≡ 12
      → (type_of a < (tables_of f).types) ⊎ ((type_of a ≡ 6) × ((k : ℕ) → k < 6 → HoldsAt f s (place_of a) k))
  named_type (refused n v) e = absurd (not_file (sym v.number_is ∙ e) (omega arith) (omega arith))
  named_type (wrong_length p n v) e = absurd (omega (arith, v.number_is))
  named_type (ill_formed p q b l h below v) e = absurd (omega (arith, v.number_is))
  named_type (broken w r k below n low v) e = elim (dec_lt k (tables_of f).types) [
    | yes l ↦ inl (omega (arith, v.type_is))
    | no l ↦ elim (dec_lt k 6) [
      | yes u ↦ absurd (low.fails u (types_kept f w.0 s k (omega arith) u r))
      | no u ↦ inr (omega (arith, low.within, v.type_is), λ j i. subst (λ q. HoldsAt f s q j) (sym v.place_is) (low.below j (omega arith)))
    ]
  ]
  named_type (overdrawn w h n y u below v) e = absurd (omega (arith, v.number_is))
  named_type (accepted w h c v) e = absurd (omega (arith, v.number_is))

  pub overdrawn_type : {a : Answer} → Checks f s a → number_of a ≡ 13 → type_of a < (tables_of f).types
  overdrawn_type (refused n v) e = absurd (not_file (sym v.number_is ∙ e) (omega arith) (omega arith))
  overdrawn_type (wrong_length p n v) e = absurd (omega (arith, v.number_is))
  overdrawn_type (ill_formed p q b l h below v) e = absurd (omega (arith, v.number_is))
  overdrawn_type (broken w r k below n low v) e = absurd (omega (arith, v.number_is))
  overdrawn_type (overdrawn w h n y u below v) e = omega (arith, v.type_is, drawn_type f w.0 n y.0.0 (stock_in f s n) u)
  overdrawn_type (accepted w h c v) e = absurd (omega (arith, v.number_is))
