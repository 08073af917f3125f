-- Laws of counts, for every number.
use Prim.Native.Nat.{ℕ, ◌+◌, ◌-◌, ◌≤◌, ◌<◌, min, max}
use mathlib.Core.Path.{◌≡◌, sym, ◌∙◌, ap, ap₂}
use native.Mathlib.Omega.{arith}
use native.Mathlib.Decide.{ℕ_discrete, dec_le, dec_lt}
use lib.Dec.{leb}
use borrow.Author.Tests.{le-leb, lt-leb}
use Rattle.effect_number.specs.Number.{counted, less, pick, left, count_after}
use Rattle.effect_number.specs.Formulas.{norm_drop, then_cap, sum_drop, larger_drop}
use Rattle.effect_number.proofs.Cases.{less_endless, less_finite, left_none, left_some, norm_none, norm_254, norm_keep, cap_none, cap_some, sum_none_r, sum_none_l, sum_small, sum_large, larger_none_l, larger_none_r, larger_some}

pub less_top : (r d : ℕ) → less r d ≤ 255
less_top r d = elim (dec_le 255 r) [
  | yes h ↦ omega (arith, less_endless r d h)
  | no h ↦ omega (arith, less_finite r d (omega arith))
]

-- a larger count leaves more, a larger drop leaves less
pub less_order : (r s d f : ℕ) → r ≤ s → f ≤ d → less r d ≤ less s f
less_order r s d f h k = elim (dec_le 255 s) [
  | yes p ↦ omega (arith, less_endless s f p, less_top r d)
  | no p ↦ omega (arith, less_finite s f (omega arith), less_finite r d (omega arith))
]

pub less_counted : (r d : ℕ) → less (counted r) d ≡ less r d
less_counted r d = elim (dec_le 255 r) [
  | yes h ↦ less_endless (counted r) d (omega arith) ∙ sym (less_endless r d h)
  | no h ↦ let e : counted r ≡ r = omega arith in ap (λ x. less x d) e
]

less_min : (a b d : ℕ) → less (min a b) d ≡ min (less a d) (less b d)
less_min a b d = elim (dec_le a b) [
  | yes h ↦ let e : min a b ≡ a = omega arith in rw e (omega (arith, less_order a b d d h (omega arith)))
  | no h ↦ let e : min a b ≡ b = omega arith in rw e (omega (arith, less_order b a d d (omega arith) (omega arith)))
]

less_max : (r d f : ℕ) → less r (max d f) ≡ min (less r d) (less r f)
less_max r d f = elim (dec_le d f) [
  | yes h ↦ let e : max d f ≡ f = omega arith in rw e (omega (arith, less_order r r f d (omega arith) h))
  | no h ↦ let e : max d f ≡ d = omega arith in rw e (omega (arith, less_order r r d f (omega arith) (omega arith)))
]

-- a drop after a drop is the sum of the drops
less_less : (r d f : ℕ) → d < 256 → f < 256 → less (less r d) f ≡ less r (sum_drop d f)
less_less r d f p q = elim (dec_le 255 r) [
  | yes h ↦ omega (arith, less_endless r d h, less_endless (less r d) f (omega (arith, less_endless r d h)), less_endless r (sum_drop d f) h)
  | no h ↦
      let a : less r d ≡ r - d = less_finite r d (omega arith) in
      let b : less (less r d) f ≡ less r d - f = less_finite (less r d) f (omega arith) in
      let e : less r (sum_drop d f) ≡ r - sum_drop d f = less_finite r (sum_drop d f) (omega arith) in
      elim (dec_lt (d + f) 254) [
        | yes k ↦ omega (arith, sum_small d f k)
        | no k ↦ omega (arith, sum_large d f q p (omega arith))
      ]
]

pub left_le : (c d r : ℕ) → left c d r ≤ c
left_le c d r = elim (dec_le 256 d) [
  | yes h ↦ omega (arith, left_none c d r h)
  | no h ↦ omega (arith, left_some c d r (omega arith))
]

-- normal form changes no result
norm_less : (c d r : ℕ) → (c ≡ 0 → ⊥) → d < 256 → (norm_drop c d < 256) × (less r (norm_drop c d) ≡ less r d)
norm_less c d r z h = elim (ℕ_discrete d 254) [
  | yes p ↦ (omega (arith, norm_254 c d z p), rw (norm_254 c d z p) (swept p))
  | no p ↦ (omega (arith, norm_keep c d z h p), ap (less r) (norm_keep c d z h p))
]
  where
    swept : d ≡ 254 → less r 255 ≡ less r d
    swept p = elim (dec_le 255 r) [
      | yes k ↦ less_endless r 255 k ∙ sym (less_endless r d k)
      | no k ↦ omega (arith, less_finite r 255 (omega arith), less_finite r d (omega arith))
    ]

pub after_norm : (c d r : ℕ) → count_after (counted c) (norm_drop c d) r ≡ count_after c d r
unfolding count_after
after_norm c d r = elim (ℕ_discrete c 0) [
  | yes z ↦ omega (arith, left_le (counted c) (norm_drop c d) r, left_le c d r)
  | no z ↦ elim (dec_le 256 d) [
    | yes h ↦ omega (arith, left_none (counted c) (norm_drop c d) r (omega (arith, norm_none c d z h)), left_none c d r h)
    | no h ↦
        let n = norm_less c d r z (omega arith) in
        omega (arith, left_some (counted c) (norm_drop c d) r n.0, n.1, left_some c d r (omega arith))
  ]
]

-- then is one count after the other
min_turn : (x e y : ℕ) → min (min x e) y ≡ min e (min x y)
min_turn x e y = omega arith

sum_lt : (d f : ℕ) → d < 256 → f < 256 → sum_drop d f < 256
sum_lt d f p q = elim (dec_lt (d + f) 254) [
  | yes k ↦ omega (arith, sum_small d f k)
  | no k ↦ omega (arith, sum_large d f q p (omega arith))
]

left_then : (c d e f r : ℕ) → left (then_cap c e f) (sum_drop d f) r ≡ left e f (counted (left c d r))
left_then c d e f r = elim (dec_le 256 f) [
  | yes h ↦ left_none _ _ r (omega (arith, sum_none_r d f h)) ∙ cap_none c e f h ∙ sym (left_none e f _ h)
  | no h ↦
      let q : f < 256 = omega arith in
      let right : left e f (counted (left c d r)) ≡ min e (less (left c d r) f) =
      left_some e f _ q ∙ ap (min e) (less_counted (left c d r) f) in
      elim (dec_le 256 d) [
        | yes k ↦ omega (arith, left_none (then_cap c e f) (sum_drop d f) r (omega (arith, sum_none_l d f q k)), cap_some c e f q, right, ap (λ x. less x f) (left_none c d r k))
        | no k ↦
            let p : d < 256 = omega arith in
            left_some _ _ r (sum_lt d f p q)
            ∙ ap₂ min (cap_some c e f q) (sym (less_less r d f p q))
            ∙ min_turn (less c f) e (less (less r d) f)
            ∙ ap (min e) (sym (ap (λ x. less x f) (left_some c d r p) ∙ less_min c (less r d) f))
            ∙ sym right
      ]
]

pub after_then : (c d e f r : ℕ) → count_after (then_cap c e f) (sum_drop d f) r ≡ count_after e f (count_after c d r)
unfolding count_after
after_then c d e f r = ap counted (left_then c d e f r)

-- both is the smaller count
pub min_swap : (c e x y : ℕ) → min (min c e) (min x y) ≡ min (min c x) (min e y)
min_swap c e x y = omega arith

left_both : (c d e f r : ℕ) → left (min c e) (larger_drop d f) r ≡ min (left c d r) (left e f r)
left_both c d e f r = elim (dec_le 256 d) [
  | yes h ↦ rw (larger_none_l d f h, left_none c d r h) (elim (dec_le 256 f) [
    | yes k ↦ omega (arith, left_none (min c e) f r k, left_none e f r k)
    | no k ↦ omega (arith, left_some (min c e) f r (omega arith), left_some e f r (omega arith))
  ])
  | no h ↦
      let p : d < 256 = omega arith in
      elim (dec_le 256 f) [
        | yes k ↦ rw (larger_none_r d f p k, left_none e f r k, left_some c d r p, left_some (min c e) d r p) (omega arith)
        | no k ↦
            let q : f < 256 = omega arith in
            let m : max d f < 256 = omega arith in
            rw (larger_some d f p q, left_some c d r p, left_some e f r q, left_some (min c e) (max d f) r m, less_max r d f)
            (min_swap c e (less r d) (less r f))
      ]
]

pub counted_min : (a b : ℕ) → counted (min a b) ≡ min (counted a) (counted b)
counted_min a b = omega arith

pub after_both : (c d e f r : ℕ) → count_after (min c e) (larger_drop d f) r ≡ min (count_after c d r) (count_after e f r)
unfolding count_after
after_both c d e f r = ap counted (left_both c d e f r) ∙ counted_min (left c d r) (left e f r)

-- what is left follows what was there
pub after_mono : (c d r s : ℕ) → counted r ≤ counted s → count_after c d r ≤ count_after c d s
unfolding count_after
after_mono c d r s h = elim (dec_le 256 d) [
  | yes k ↦ omega (arith, left_none c d r k, left_none c d s k)
  | no k ↦
      let l : less r d ≤ less s d = omega (arith, less_counted r d, less_counted s d, less_order (counted r) (counted s) d d h (omega arith)) in
      omega (arith, left_some c d r (omega arith), left_some c d s (omega arith))
]

pub after_min : (c d r s : ℕ) → count_after c d (min r s) ≡ min (count_after c d r) (count_after c d s)
after_min c d r s = elim (dec_le r s) [
  | yes h ↦ let e : min r s ≡ r = omega arith in rw e (omega (arith, after_mono c d r s (omega arith)))
  | no h ↦ let e : min r s ≡ s = omega arith in rw e (omega (arith, after_mono c d s r (omega arith)))
]

pub after_nothing : (r : ℕ) → count_after 255 0 r ≡ counted r
unfolding count_after
after_nothing r = elim (dec_le 255 r) [
  | yes h ↦ omega (arith, left_some 255 0 r (omega arith), less_endless r 0 h)
  | no h ↦ omega (arith, left_some 255 0 r (omega arith), less_finite r 0 (omega arith))
]

pub after_top : (c d r : ℕ) → count_after c d r ≤ 255
unfolding count_after
after_top c d r = omega arith

-- 1 taken from a finite count, and endless as it is
pub less_one : (r : ℕ) → less r 1 ≡ counted (pick (leb 255 r) r (r - 1))
less_one r = elim (dec_le 255 r) [
  | yes h ↦ simp (le-leb 255 r h) (omega (arith, less_endless r 1 h))
  | no h ↦ let k : r < 255 = omega arith in simp (lt-leb 255 r k) (omega (arith, less_finite r 1 k))
]
