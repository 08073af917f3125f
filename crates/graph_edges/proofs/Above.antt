-- Rows are compared as tuples: a row is not above another exactly if the tuple is at most the other.
use Prim.Native.Nat.{ℕ, ◌<◌}
use mathlib.Core.Path.{◌≡◌, refl, ap, ◌∙◌}
use mathlib.Core.Bool.{Bool, true, false, not, ◌&&◌, ◌||◌}
use mathlib.Core.List.{[], ◌∷◌}
use native.Mathlib.Omega.{arith}
use lib.Dec.{ltb, eqb}
use borrow.Author.Tests.{lt-ltb, le-ltb, ltb-true, ltb-false, eqb-true, eqb-false, ne_eqb}
use Rattle.std.specs.declared.option.Option.{Option}
use Rattle.std.specs.declared.option.Option.TheVariants.{None, Some}
use Rattle.std.proofs.Common.{Ordering, Less, Equal, Greater}
use Rattle.std.specs.Ordering.{is_le, is_some_and, nat_cmp, partial_ordering_then, as_partial_cmp, partial_le}
use Rattle.graph_refuse.specs.Bad.{above}

-- p compares what follows the fields a and c
field : (a c : ℕ) (rest : Bool) (p : Option Ordering) → is_some_and is_le p ≡ not rest
    → is_some_and is_le (partial_ordering_then (Some (nat_cmp a c)) p) ≡ not (ltb c a || (eqb a c && rest))
field a c rest p h = go (ltb a c) refl (eqb a c) refl
  where
    go : (b : Bool) → ltb a c ≡ b → (e : Bool) → eqb a c ≡ e → is_some_and is_le (partial_ordering_then (Some (nat_cmp a c)) p) ≡ not (ltb c a || (eqb a c && rest))
    go true l e q =
        let below : a < c = ltb-true a c l in
        simp (l, le-ltb c a (omega arith), ne_eqb a c (omega arith))
    go false l true q =
        let same : a ≡ c = eqb-true a c q in
        simp (l, q, le-ltb c a (omega arith)) h
    go false l false q =
        let above : c < a = omega (arith, ltb-false a c l, eqb-false a c q) in
        simp (l, q, lt-ltb c a above)

-- the last field
last : (a c : ℕ) → is_some_and is_le (Some (nat_cmp a c)) ≡ not (ltb c a || (eqb a c && false))
last a c = go (ltb a c) refl (eqb a c) refl
  where
    go : (b : Bool) → ltb a c ≡ b → (e : Bool) → eqb a c ≡ e → is_some_and is_le (Some (nat_cmp a c)) ≡ not (ltb c a || (eqb a c && false))
    go true l e q =
        let below : a < c = ltb-true a c l in
        simp (l, le-ltb c a (omega arith), ne_eqb a c (omega arith))
    go false l true q =
        let same : a ≡ c = eqb-true a c q in
        simp (l, q, le-ltb c a (omega arith))
    go false l false q =
        let above : c < a = omega (arith, ltb-false a c l, eqb-false a c q) in
        simp (l, q, lt-ltb c a above)

pub two_above : (a b c d : ℕ) → partial_le {X = ℕ × ℕ} (λ x y. partial_ordering_then (as_partial_cmp nat_cmp x.0 y.0) (as_partial_cmp nat_cmp x.1 y.1)) (a, b) (c, d) ≡ not (above (a ∷ b ∷ []) (c ∷ d ∷ []))
unfolding above
two_above a b c d = field a c _ _ (last b d)

-- three fields are compared as the first two and then the third
regroup : (p q r : Option Ordering) → partial_ordering_then (partial_ordering_then p q) r ≡ partial_ordering_then p (partial_ordering_then q r)
regroup None q r = refl
regroup (Some Less) q r = refl
regroup (Some Equal) q r = refl
regroup (Some Greater) q r = refl

pub three_above : (a b c d e g : ℕ)
    → partial_le {X = ℕ × ℕ × ℕ} (λ x y. partial_ordering_then (partial_ordering_then (as_partial_cmp nat_cmp x.0 y.0) (as_partial_cmp nat_cmp x.1 y.1)) (as_partial_cmp nat_cmp x.2 y.2)) (a, b, c) (d, e, g)
    ≡ not (above (a ∷ b ∷ c ∷ []) (d ∷ e ∷ g ∷ []))
unfolding above
three_above a b c d e g = ap (is_some_and is_le) (regroup (Some (nat_cmp a d)) (Some (nat_cmp b e)) (Some (nat_cmp c g))) ∙ field a d _ _ (field b e _ _ (last c g))
