-- Numbers that fall when an effect or a stock falls, for loops that lower one until it stands.
--   effects   pot_le, pot_falls, both_le, both_falls
--   stocks    lower_le, lower_falls
use Prim.Native.Nat.{ℕ, ◌+◌, ◌-◌, ◌≤◌, ◌<◌}
use mathlib.Core.Path.{◌≡◌, refl, ap}
use mathlib.Core.Bool.{Bool, true, false}
use mathlib.Core.Logic.{⊎_elim}
use native.Mathlib.Omega.{arith}
use native.Mathlib.Decide.{ℕ_discrete}
use native.Mathlib.Nat.{lt_of_not-le}
use lib.Bits.{bit_and, and_le_l, and_le_r}
use lib.Dec.{eqb}
use borrow.Author.Tests.{eq-eqb, ne_eqb, eqb-true, eqb-false, leb-false}
use Rattle.effect_one.specs.declared.Held.{Held}
use Rattle.effect_one.specs.declared.One.{One}
use Rattle.effect_number.specs.Number.{pick, counted}
use Rattle.effect_number.specs.Formulas.{rank, within}
use Rattle.effect_one.specs.Formulas.{normal_one, at_most_one, held_at_most, lower_held}
use Rattle.effect.specs.declared.Stock.{Stock}
use Rattle.effect.specs.declared.Effect.{Effect}
use Rattle.effect.specs.Six.{one_at, held_at}
use Rattle.effect.specs.Whole.{normal_of, at_most_of, both_of, stock_at_most_of, lower_of}
use Rattle.effect.specs.Coordinate.{bit}
use Rattle.effect.proofs.Bools.{and_no, clash}
use Rattle.effect.proofs.Bit.{bit_within}
use Rattle.effect.proofs.Order.{Under, nothing, under, rank_le}
use Rattle.effect.proofs.Six.{below_six, all_e, all_find}
use Rattle.effect.proofs.Single.{normal_fields, fields_true}
use Rattle.effect.proofs.Laws.{at_most_trans, normal_at, both_normal, both_left, both_right}

-- a sum over the six types is no larger where each is no larger, and less where one is less
abbrev pub sum_six : (ℕ → ℕ) → ℕ
sum_six f = f 0 + (f 1 + (f 2 + (f 3 + (f 4 + f 5))))

module _ (f g : ℕ → ℕ) (h : (k : ℕ) → k < 6 → f k ≤ g k) where
  each : (f 0 ≤ g 0) × (f 1 ≤ g 1) × (f 2 ≤ g 2) × (f 3 ≤ g 3) × (f 4 ≤ g 4) × (f 5 ≤ g 5)
  each = (h 0 (omega arith), h 1 (omega arith), h 2 (omega arith), h 3 (omega arith), h 4 (omega arith), h 5 (omega arith))

  sum_le : sum_six f ≤ sum_six g
  sum_le = omega (arith, each)

  sum_lt : (k : ℕ) → k < 6 → f k < g k → sum_six f < sum_six g
  sum_lt =
      let e = each in
      below_six (λ k. f k < g k → sum_six f < sum_six g) (λ l. omega arith) (λ l. omega arith) (λ l. omega arith) (λ l. omega arith) (λ l. omega arith) (λ l. omega arith)

-- of a cap and a drop
unfoldable pub pot_count : ℕ → ℕ → ℕ
pot_count c d = pick (eqb c 0) 0 (counted c + (257 - rank d))

pot_zero : (c d : ℕ) → c ≡ 0 → pot_count c d ≡ 0
unfolding pot_count
pot_zero c d p = simp (eq-eqb c 0 p)

pot_some : (c d : ℕ) → (c ≡ 0 → ⊥) → pot_count c d ≡ counted c + (257 - rank d)
unfolding pot_count
pot_some c d p = simp (ne_eqb c 0 p)

count_le : (c d e f : ℕ) → Under c d e f → pot_count c d ≤ pot_count e f
count_le c d e f (nothing p) = omega (arith, pot_zero c d p)
count_le c d e f (under p q) = elim (ℕ_discrete c 0) [
  | yes z ↦ omega (arith, pot_zero c d z)
  | no z ↦ omega (arith, pot_some c d z, pot_some e f (omega arith))
]

count_back : (c d e f : ℕ) → Under c d e f → pot_count e f ≤ pot_count c d → Under e f c d
count_back c d e f u h = elim (ℕ_discrete e 0) [
  | yes w ↦ nothing w
  | no w ↦ go w u
]
  where
    go : (e ≡ 0 → ⊥) → Under c d e f → Under e f c d
    go w (nothing p) = absurd (omega (arith, pot_zero c d p, pot_some e f w))
    go w (under p q) =
        let z : c ≡ 0 → ⊥ = λ z. omega (arith, pot_zero c d z, pot_some e f w) in
        let s : counted e + (257 - rank f) ≤ counted c + (257 - rank d) = omega (arith, pot_some c d z, pot_some e f w) in
        under (omega (arith, rank_le d)) (omega (arith, rank_le d, rank_le f))

-- of one type
abbrev pub pot_one : One → ℕ
pot_one x = x.keepin + (x.keepmax + pot_count x.cap x.drop)

bits_le : (a b : ℕ) → ((k : ℕ) → bit k a ≤ bit k b) → a ≤ b
unfolding within
bits_le a b h = omega (arith, eqb-true (bit_and a b) a (bit_within a b h), and_le_r a b)

one_le : (x y : One) → normal_one x ≡ true → at_most_one x y ≡ true → pot_one x ≤ pot_one y
one_le x y n t =
    let f = normal_fields x y n t in
    omega (arith, bits_le _ _ f.keepins, bits_le _ _ f.keepmaxs, count_le _ _ _ _ f.pairs)

one_back : (x y : One) → normal_one x ≡ true → at_most_one x y ≡ true → pot_one y ≤ pot_one x → at_most_one y x ≡ true
one_back x y n t h =
    let f = normal_fields x y n t in
    let i = bits_le _ _ f.keepins in
    let m = bits_le _ _ f.keepmaxs in
    let c = count_le _ _ _ _ f.pairs in
    let p : y.keepin ≡ x.keepin = omega arith in
    let q : y.keepmax ≡ x.keepmax = omega arith in
    fields_true y x
    (record {
      keepins = λ b. omega (arith, ap (bit b) p);
      keepmaxs = λ b. omega (arith, ap (bit b) q);
      pairs = count_back _ _ _ _ f.pairs (omega arith);
    })

-- of an effect
unfoldable pub pot_of : Effect → ℕ
pot_of e = sum_six (λ k. pot_one (one_at e k))

pub pot_le : (z a : Effect) → normal_of z ≡ true → at_most_of z a ≡ true → pot_of z ≤ pot_of a
unfolding pot_of at_most_of
pot_le z a m t =
    sum_le (λ k. pot_one (one_at z k)) (λ k. pot_one (one_at a k))
    (λ k h. one_le (one_at z k) (one_at a k) (normal_at z m k h) (all_e (λ k. at_most_one (one_at z k) (one_at a k)) t k h))

pub pot_falls : (z a : Effect) → normal_of z ≡ true → at_most_of z a ≡ true → at_most_of a z ≡ false → pot_of z < pot_of a
unfolding pot_of at_most_of
pot_falls z a m t n =
    let w = all_find (λ k. at_most_one (one_at a k) (one_at z k)) n in
    let at : (k : ℕ) → k < 6 → at_most_one (one_at z k) (one_at a k) ≡ true = all_e (λ k. at_most_one (one_at z k) (one_at a k)) t in
    sum_lt (λ k. pot_one (one_at z k)) (λ k. pot_one (one_at a k)) (λ k h. one_le (one_at z k) (one_at a k) (normal_at z m k h) (at k h)) w.0 w.1
    (lt_of_not-le (λ l. clash _ (one_back (one_at z w.0) (one_at a w.0) (normal_at z m w.0 w.1) (at w.0 w.1) l) w.2))

pub both_le : (a b : Effect) → pot_of (both_of a b) ≤ pot_of a
both_le a b = pot_le (both_of a b) a (both_normal a b) (both_left a b)

pub both_falls : (a b : Effect) → at_most_of a b ≡ false → pot_of (both_of a b) < pot_of a
both_falls a b n = go (at_most_of a (both_of a b)) refl
  where
    go : (t : Bool) → at_most_of a (both_of a b) ≡ t → pot_of (both_of a b) < pot_of a
    go true p = absurd (clash _ (at_most_trans a (both_of a b) b p (both_right a b)) n)
    go false p = pot_falls (both_of a b) a (both_normal a b) (both_left a b) p

-- of a stock
abbrev pub pot_held : Held → ℕ
pot_held h = h.rights + counted h.count

unfoldable pub pot_stock : Stock → ℕ
pot_stock s = sum_six (λ k. pot_held (held_at s k))

held_le : (h g : Held) → pot_held (lower_held h g) ≤ pot_held h
unfolding lower_held
held_le h g = omega (arith, and_le_l h.rights g.rights)

held_falls : (h g : Held) → held_at_most h g ≡ false → pot_held (lower_held h g) < pot_held h
unfolding held_at_most lower_held within
held_falls h g n =
    let a = bit_and h.rights g.rights in
    ⊎_elim
    (λ p. let w = eqb-false a h.rights p in omega (arith, and_le_l h.rights g.rights))
    (λ p. omega (arith, and_le_l h.rights g.rights, leb-false (counted h.count) g.count p))
    (and_no (eqb a h.rights) _ n)

pub lower_le : (s t : Stock) → pot_stock (lower_of s t) ≤ pot_stock s
unfolding pot_stock lower_of
lower_le s t =
    sum_le (λ k. pot_held (lower_held (held_at s k) (held_at t k))) (λ k. pot_held (held_at s k)) (λ k h. held_le (held_at s k) (held_at t k))

pub lower_falls : (s t : Stock) → stock_at_most_of s t ≡ false → pot_stock (lower_of s t) < pot_stock s
unfolding pot_stock lower_of stock_at_most_of
lower_falls s t n =
    let w = all_find (λ k. held_at_most (held_at s k) (held_at t k)) n in
    sum_lt (λ k. pot_held (lower_held (held_at s k) (held_at t k))) (λ k. pot_held (held_at s k)) (λ k h. held_le (held_at s k) (held_at t k)) w.0 w.1
    (held_falls (held_at s w.0) (held_at t w.0) w.2)
