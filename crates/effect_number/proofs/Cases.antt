-- Each definition of `Number` at each of its cases, as an equation under the facts that lead there.
use Prim.Native.Nat.{ℕ, ◌+◌, ◌-◌, ◌*◌, ◌≤◌, ◌<◌, min, max}
use mathlib.Core.Path.{◌≡◌, refl, sym, ◌∙◌, ap}
use mathlib.Core.Bool.{Bool, true, false, ◌&&◌, ◌||◌, not}
use native.Mathlib.Omega.{arith}
use native.Mathlib.Decide.{ℕ_discrete, dec_le, dec_lt}
use native.Mathlib.Nat.{mul-le-mul, mul-zero, zero-mul}
use lib.Dec.{leb, ltb, eqb}
use borrow.Author.Tests.{eq-eqb, ne_eqb, lt-ltb, le-ltb, le-leb, lt-leb, leb-true, leb-false, eqb-false}
use Rattle.effect_number.specs.Number.{pick, counted, less, left, count_after}
use Rattle.effect_number.specs.Formulas.{written, norm_drop, then_cap, sum_drop, earlier_drop, rank, larger_drop, count_at_most}

pub less_endless : (r d : ℕ) → 255 ≤ r → less r d ≡ 255
unfolding less
less_endless r d p = simp (le-leb 255 r p)

-- a drop of 255 leaves nothing of at most 254
pub less_finite : (r d : ℕ) → r < 255 → less r d ≡ r - d
unfolding less
less_finite r d p = elim (dec_le 255 d) [
  | yes q ↦ simp (lt-leb 255 r p, le-leb 255 d q) (omega arith)
  | no q ↦ simp (lt-leb 255 r p, lt-leb 255 d (omega arith))
]

pub left_none : (c d r : ℕ) → 256 ≤ d → left c d r ≡ c
unfolding left
left_none c d r p = simp (le-leb 256 d p)

pub left_some : (c d r : ℕ) → d < 256 → left c d r ≡ min c (less r d)
unfolding left
left_some c d r p = simp (lt-leb 256 d p)

pub norm_zero : (c d : ℕ) → c ≡ 0 → norm_drop c d ≡ 256
unfolding norm_drop
norm_zero c d p = simp (eq-eqb c 0 p)

pub norm_none : (c d : ℕ) → (c ≡ 0 → ⊥) → 256 ≤ d → norm_drop c d ≡ 256
unfolding norm_drop
norm_none c d p q = simp (ne_eqb c 0 p, le-leb 256 d q)

pub norm_254 : (c d : ℕ) → (c ≡ 0 → ⊥) → d ≡ 254 → norm_drop c d ≡ 255
unfolding norm_drop
norm_254 c d p q = simp (ne_eqb c 0 p, lt-leb 256 d (omega arith), eq-eqb d 254 q)

pub norm_keep : (c d : ℕ) → (c ≡ 0 → ⊥) → d < 256 → (d ≡ 254 → ⊥) → norm_drop c d ≡ d
unfolding norm_drop
norm_keep c d p q n = simp (ne_eqb c 0 p, lt-leb 256 d q, ne_eqb d 254 n)

pub cap_none : (c e f : ℕ) → 256 ≤ f → then_cap c e f ≡ e
unfolding then_cap
cap_none c e f p = simp (le-leb 256 f p)

pub cap_some : (c e f : ℕ) → f < 256 → then_cap c e f ≡ min (less c f) e
unfolding then_cap
cap_some c e f p = simp (lt-leb 256 f p)

pub sum_none_r : (d f : ℕ) → 256 ≤ f → sum_drop d f ≡ 256
unfolding sum_drop
sum_none_r d f p = simp (le-leb 256 f p)

pub sum_none_l : (d f : ℕ) → f < 256 → 256 ≤ d → sum_drop d f ≡ 256
unfolding sum_drop
sum_none_l d f p q = simp (lt-leb 256 f p, le-leb 256 d q)

pub sum_small : (d f : ℕ) → d + f < 254 → sum_drop d f ≡ d + f
unfolding sum_drop
sum_small d f h = simp (lt-leb 256 f (omega arith), lt-leb 256 d (omega arith), lt-ltb (d + f) 254 h)

pub sum_large : (d f : ℕ) → f < 256 → d < 256 → 254 ≤ d + f → sum_drop d f ≡ 255
unfolding sum_drop
sum_large d f p q h = simp (lt-leb 256 f p, lt-leb 256 d q, le-ltb (d + f) 254 h)

-- the earlier of k drops: of one time, of no drop, of so many that they are endless
pub earlier_once : (k d : ℕ) → k < 2 → earlier_drop k d ≡ 0
unfolding earlier_drop
earlier_once k d h = let e : k - 1 ≡ 0 = omega arith in omega (arith, ap (λ n. n * d) e, zero-mul d)

pub earlier_none : (k d : ℕ) → d ≡ 0 → earlier_drop k d ≡ 0
unfolding earlier_drop
earlier_none k d h = omega (arith, ap (λ n. (k - 1) * n) h, mul-zero (k - 1))

pub earlier_endless : (k d a b : ℕ) → a ≤ k - 1 → b ≤ d → 255 ≤ a * b → earlier_drop k d ≡ 255
unfolding earlier_drop
earlier_endless k d a b h l m = omega (arith, mul-le-mul {n₁ = a} {m₁ = b} {n₂ = k - 1} {m₂ = d} h l)

pub earlier_fits : (k d : ℕ) → k ≤ 255 → d ≤ 255 → (k - 1) * d < 65536
earlier_fits k d h l = omega (arith, mul-le-mul {n₁ = k - 1} {m₁ = d} {n₂ = 254} {m₂ = 255} (omega arith) l)

pub rank_none : (d : ℕ) → 256 ≤ d → rank d ≡ 0
unfolding rank
rank_none d p = simp (le-leb 256 d p)

pub rank_some : (d : ℕ) → d < 256 → rank d ≡ d + 1
unfolding rank
rank_some d p = simp (lt-leb 256 d p)

pub larger_r : (d f : ℕ) → rank d ≤ rank f → larger_drop d f ≡ f
unfolding larger_drop
larger_r d f h = simp (le-leb (rank d) (rank f) h)

pub larger_l : (d f : ℕ) → rank f < rank d → larger_drop d f ≡ d
unfolding larger_drop
larger_l d f h = simp (lt-leb (rank d) (rank f) h)

pub larger_none_l : (d f : ℕ) → 256 ≤ d → larger_drop d f ≡ f
larger_none_l d f p = larger_r d f (omega (arith, rank_none d p))

pub larger_none_r : (d f : ℕ) → d < 256 → 256 ≤ f → larger_drop d f ≡ d
larger_none_r d f p q = larger_l d f (omega (arith, rank_some d p, rank_none f q))

pub larger_some : (d f : ℕ) → d < 256 → f < 256 → larger_drop d f ≡ max d f
larger_some d f p q = elim (dec_le d f) [
  | yes h ↦ omega (arith, larger_r d f (omega (arith, rank_some d p, rank_some f q)))
  | no h ↦ omega (arith, larger_l d f (omega (arith, rank_some d p, rank_some f q)))
]

-- a test of which neither side holds
pub neither : (a b : Bool) → a || b ≡ false → (a ≡ false) × (b ≡ false)
neither true b e = (e, cc)
neither false b e = (refl, e)

pub below_none : (d f : ℕ) → leb 256 d || leb 256 f ≡ false → (d < 256) × (f < 256)
below_none d f e = let n = neither (leb 256 d) (leb 256 f) e in (leb-false 256 d n.0, leb-false 256 f n.1)

-- what is left where the cap is endless: the floor leaves a finite count nothing of a drop of 255
pub kept_is : (r d : ℕ) → pick (leb 255 r || leb 256 d) 255 (r - d) ≡ count_after 255 d r
unfolding count_after
kept_is r d = elim (dec_le 256 d) [
  | yes n ↦ elim (dec_le 255 r) [
    | yes e ↦ simp (le-leb 255 r e, left_none 255 d r n)
    | no e ↦ simp (lt-leb 255 r (omega arith), le-leb 256 d n, left_none 255 d r n)
  ]
  | no n ↦ elim (dec_le 255 r) [
    | yes e ↦ simp (le-leb 255 r e, left_some 255 d r (omega arith), less_endless r d e)
    | no e ↦ simp (lt-leb 255 r (omega arith), lt-leb 256 d (omega arith), left_some 255 d r (omega arith), less_finite r d (omega arith)) (omega arith)
  ]
]

-- any cap: the smaller of it and what is left where it is endless
pub after_is : (c d r : ℕ) → min (count_after 255 d r) c ≡ count_after c d r
unfolding count_after
after_is c d r = elim (dec_le 256 d) [
  | yes n ↦ simp (left_none 255 d r n, left_none c d r n) (omega arith)
  | no n ↦ simp (left_some 255 d r (omega arith), left_some c d r (omega arith)) (omega arith)
]

-- the cap of two effects in turn is what the second leaves of the first one's cap
pub cap_is : (c e f : ℕ) → count_after e f c ≡ counted (then_cap c e f)
unfolding count_after
cap_is c e f = elim (dec_le 256 f) [
  | yes n ↦ simp (left_none e f c n, cap_none c e f n)
  | no n ↦ simp (left_some e f c (omega arith), cap_some c e f (omega arith)) (omega arith)
]

-- of a cap a drop in normal form asks only whether it is 0
pub norm_counted : (c d : ℕ) → norm_drop (counted c) d ≡ norm_drop c d
unfolding norm_drop
norm_counted c d = elim (ℕ_discrete c 0) [
  | yes z ↦ let w : counted c ≡ 0 = omega arith in simp (eq-eqb c 0 z, eq-eqb (counted c) 0 w)
  | no z ↦ simp (ne_eqb c 0 z, ne_eqb (counted c) 0 (omega arith))
]

-- the sum with its ceiling: with both drops below 256 the sum is 255 or above where one is endless
pub sum_ceiled : (d f : ℕ) → d < 256 → f < 256 → sum_drop d f ≡ pick (ltb (d + f) 254) (d + f) 255
unfolding sum_drop
sum_ceiled d f p q = simp (lt-leb 256 f q, lt-leb 256 d p)

pub sum_none : (d f : ℕ) → leb 256 d || leb 256 f ≡ true → sum_drop d f ≡ 256
unfolding sum_drop
sum_none d f e = elim (dec_le 256 f) [
  | yes q ↦ simp (le-leb 256 f q)
  | no q ↦ elim (dec_le 256 d) [
    | yes p ↦ simp (lt-leb 256 f (omega arith), le-leb 256 d p)
    | no p ↦ let z : false ≡ true = simp (lt-leb 256 d (omega arith), lt-leb 256 f (omega arith)) at e in cc
  ]
]

-- a sum is in normal form: it is never 254
pub sum_normal : (d f : ℕ) → d < 256 → f < 256 → (sum_drop d f < 256) × (sum_drop d f ≡ 254 → ⊥)
sum_normal d f p q = elim (dec_lt (d + f) 254) [
  | yes h ↦ let s = sum_small d f h in (omega arith, λ e. omega arith)
  | no h ↦ let s = sum_large d f q p (omega arith) in (omega arith, λ e. omega arith)
]

-- two effects in turn: the drop is none beside cap 0, and where either drop is
module _ (cap d f : ℕ) where
  pub then_none : eqb cap 0 || (leb 256 d || leb 256 f) ≡ true → norm_drop cap (sum_drop d f) ≡ 256
  then_none e = elim (ℕ_discrete cap 0) [
    | yes z ↦ norm_zero cap (sum_drop d f) z
    | no z ↦ norm_none cap (sum_drop d f) z (omega (arith, sum_none d f (simp (ne_eqb cap 0 z) at e)))
  ]

  pub then_some : eqb cap 0 || (leb 256 d || leb 256 f) ≡ false → (d < 256) × (f < 256) × (norm_drop cap (sum_drop d f) ≡ pick (ltb (d + f) 254) (d + f) 255)
  then_some e =
      let z = neither (eqb cap 0) _ e in
      let n = below_none d f z.1 in
      let k = sum_normal d f n.0 n.1 in
      (n.0, n.1, norm_keep cap (sum_drop d f) (eqb-false cap 0 z.0) k.0 k.1 ∙ sum_ceiled d f n.0 n.1)

-- the larger drop, where one is not none
pub larger_is : (d f : ℕ) → leb 256 d && leb 256 f ≡ false → (larger_drop d f ≡ max (rank d - 1) (rank f - 1)) × (larger_drop d f < 256)
larger_is d f e = elim (dec_le 256 d) [
  | yes p ↦
      let q : f < 256 = leb-false 256 f (simp (le-leb 256 d p) at e) in
      let l = larger_none_l d f p in
      let x = rank_none d p in
      let y = rank_some f q in
      (omega arith, omega arith)
  | no p ↦ elim (dec_le 256 f) [
    | yes q ↦
        let h : d < 256 = omega arith in
        let l = larger_none_r d f h q in
        let x = rank_some d h in
        let y = rank_none f q in
        (omega arith, omega arith)
    | no q ↦
        let g : d < 256 = omega arith in
        let h : f < 256 = omega arith in
        let l = larger_some d f g h in
        let x = rank_some d g in
        let y = rank_some f h in
        (omega arith, omega arith)
  ]
]

pub larger_none : (d f : ℕ) → leb 256 d && leb 256 f ≡ true → 256 ≤ larger_drop d f
larger_none d f e = elim (dec_le 256 d) [
  | yes p ↦ let l = larger_none_l d f p in let q : 256 ≤ f = leb-true 256 f (simp (le-leb 256 d p) at e) in omega arith
  | no p ↦ let z : false ≡ true = simp (lt-leb 256 d (omega arith)) at e in let w : ◌≡◌ {A = ℕ} 0 1 = cc in omega arith
]

-- both: the same of the larger drop
module _ (cap d f : ℕ) where
  pub both_none : eqb cap 0 || leb 256 d && leb 256 f ≡ true → norm_drop cap (larger_drop d f) ≡ 256
  both_none e = elim (ℕ_discrete cap 0) [
    | yes z ↦ norm_zero cap (larger_drop d f) z
    | no z ↦ norm_none cap (larger_drop d f) z (larger_none d f (simp (ne_eqb cap 0 z) at e))
  ]

  module _ (e : eqb cap 0 || leb 256 d && leb 256 f ≡ false) where
    some : (cap ≡ 0 → ⊥) × (larger_drop d f ≡ max (rank d - 1) (rank f - 1)) × (larger_drop d f < 256)
    some =
        let z = neither (eqb cap 0) _ e in
        let l = larger_is d f z.1 in
        (eqb-false cap 0 z.0, l.0, l.1)

    pub both_254 : {m : ℕ} → m ≡ max (rank d - 1) (rank f - 1) → m ≡ 254 → norm_drop cap (larger_drop d f) ≡ 255
    both_254 p q = norm_254 cap (larger_drop d f) some.0 (some.1 ∙ sym p ∙ q)

    pub both_kept : {m : ℕ} → m ≡ max (rank d - 1) (rank f - 1) → (m ≡ 254 → ⊥) → norm_drop cap (larger_drop d f) ≡ m
    both_kept p q =
        let s = some.1 ∙ sym p in
        norm_keep cap (larger_drop d f) some.0 some.2 (λ w. q (sym s ∙ w)) ∙ s

-- a drop is in normal form beside a cap
pub normal_is : (c d : ℕ) → eqb d 256 || (not (eqb c 0) && (ltb d 256 && not (eqb d 254))) ≡ eqb (norm_drop c d) d
normal_is c d = elim (ℕ_discrete d 256) [
  | yes p ↦ elim (ℕ_discrete c 0) [
    | yes z ↦ simp (eq-eqb d 256 p, norm_zero c d z, eq-eqb 256 d (sym p))
    | no z ↦ simp (eq-eqb d 256 p, norm_none c d z (omega arith), eq-eqb 256 d (sym p))
  ]
  | no p ↦ elim (ℕ_discrete c 0) [
    | yes z ↦ simp (ne_eqb d 256 p, eq-eqb c 0 z, norm_zero c d z, ne_eqb 256 d (λ q. p (sym q)))
    | no z ↦ elim (dec_le 256 d) [
      | yes n ↦ simp (ne_eqb d 256 p, ne_eqb c 0 z, le-ltb d 256 n, norm_none c d z n, ne_eqb 256 d (λ q. p (sym q)))
      | no n ↦ elim (ℕ_discrete d 254) [
        | yes w ↦ simp (ne_eqb d 256 p, ne_eqb c 0 z, lt-ltb d 256 (omega arith), eq-eqb d 254 w, norm_254 c d z w, ne_eqb 255 d (omega arith))
        | no w ↦ simp (ne_eqb d 256 p, ne_eqb c 0 z, lt-ltb d 256 (omega arith), ne_eqb d 254 w, norm_keep c d z (omega arith) w, eq-eqb d d refl)
      ]
    ]
  ]
]

or_true : (a : Bool) → a || true ≡ true
or_true true = refl
or_true false = refl

-- a drop as it is written
written_254 : (d : ℕ) → d ≡ 254 → written d ≡ 255
written_254 d p = simp (lt-leb 256 d (omega arith), eq-eqb d 254 p)

written_kept : (d : ℕ) → d < 256 → (d ≡ 254 → ⊥) → written d ≡ d
written_kept d p n = simp (lt-leb 256 d p, ne_eqb d 254 n)

written_none : (d : ℕ) → 256 ≤ d → written d ≡ 256
written_none d p = simp (le-leb 256 d p)

pub above_none : (d f : ℕ) → f < 256 → 256 ≤ d → leb (rank f) (rank (written d)) ≡ false
above_none d f p q =
    let w : rank (written d) ≡ 0 = ap rank (written_none d q) ∙ rank_none 256 (omega arith) in
    lt-leb (rank f) (rank (written d)) (omega (arith, rank_some f p))

pub above_some : (d f : ℕ) → f < 256 → d < 256 → leb f d || eqb d 254 ≡ leb (rank f) (rank (written d))
above_some d f p q = elim (ℕ_discrete d 254) [
  | yes e ↦
      let w : rank (written d) ≡ 256 = ap rank (written_254 d e) ∙ rank_some 255 (omega arith) in
      let t : leb (rank f) (rank (written d)) ≡ true = le-leb (rank f) (rank (written d)) (omega (arith, rank_some f p)) in
      let l : leb f d || eqb d 254 ≡ true = simp (eq-eqb d 254 e) (or_true (leb f d)) in
      l ∙ sym t
  | no e ↦
      let w : rank (written d) ≡ d + 1 = ap rank (written_kept d q e) ∙ rank_some d q in
      elim (dec_le f d) [
        | yes h ↦
            let t : leb (rank f) (rank (written d)) ≡ true = le-leb (rank f) (rank (written d)) (omega (arith, rank_some f p)) in
            let l : leb f d || eqb d 254 ≡ true = simp (le-leb f d h) in
            l ∙ sym t
        | no h ↦
            let t : leb (rank f) (rank (written d)) ≡ false = lt-leb (rank f) (rank (written d)) (omega (arith, rank_some f p)) in
            let l : leb f d || eqb d 254 ≡ false = simp (lt-leb f d (omega arith), ne_eqb d 254 e) in
            l ∙ sym t
      ]
]

-- the cap and drop of an effect in normal form against another's
module _ (c d e f : ℕ) where
  pub count_none : c ≡ 0 → count_at_most (counted c) (norm_drop c d) e f ≡ true
  unfolding count_at_most
  count_none z = let w : counted c ≡ 0 = omega arith in simp (eq-eqb (counted c) 0 w)

  pub count_over : (c ≡ 0 → ⊥) → e < counted c → count_at_most (counted c) (norm_drop c d) e f ≡ false
  unfolding count_at_most
  count_over z h = simp (ne_eqb (counted c) 0 (omega arith), lt-leb (counted c) e h)

  pub count_under : (c ≡ 0 → ⊥) → counted c ≤ e → count_at_most (counted c) (norm_drop c d) e f ≡ leb (rank f) (rank (written d))
  unfolding count_at_most norm_drop
  count_under z h = simp (ne_eqb (counted c) 0 (omega arith), le-leb (counted c) e h, ne_eqb c 0 z)
