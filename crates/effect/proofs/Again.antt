-- An effect taken many times is the effect taken once and once again, and leaves at most what it leaves once.
use Prim.Native.Nat.{ℕ, zero, suc, ◌+◌, ◌-◌, ◌*◌, ◌≤◌, ◌<◌, min, max}
use mathlib.Core.Path.{◌≡◌, refl, sym, ap, ◌∙◌}
use mathlib.Core.Bool.{true}
use native.Mathlib.Omega.{arith}
use native.Mathlib.Decide.{dec_le, dec_lt}
use native.Mathlib.Nat.{suc-mul, zero-mul}
use Rattle.effect_number.specs.Number.{counted, less, count_after, rights_after}
use Rattle.effect_number.specs.Formulas.{then_cap, sum_drop, earlier_drop}
use Rattle.effect_number.proofs.Cases.{less_endless, less_finite, cap_some, sum_small, sum_large}
use Rattle.effect_one.specs.declared.Held.{Held}
use Rattle.effect_one.specs.declared.One.{One}
use Rattle.effect_one.specs.Single.{apply_one}
use Rattle.effect_one.specs.Formulas.{normal_one, times_one}
use Rattle.effect_one.proofs.Cases.{many, times_none, times_some}
use Rattle.effect.specs.declared.Stock.{Stock}
use Rattle.effect.specs.declared.Effect.{Effect}
use Rattle.effect.specs.Six.{held_at, stock_of, one_at}
use Rattle.effect.specs.Whole.{normal_of, apply_of, then_of, times_of, at_most_of}
use Rattle.effect.specs.Coordinate.{bit}
use Rattle.effect.specs.Meaning.{again_of}
use Rattle.effect.proofs.Bit.{bit_ext}
use Rattle.effect.proofs.Rights.{bit_after}
use Rattle.effect.proofs.Count.{less_top, after_then, after_top}
use Rattle.effect.proofs.Order.{after_none, after_some}
use Rattle.effect.proofs.Single.{HeldBelow, below_along, one_form, form_normal}
use Rattle.effect.proofs.Six.{all_i}
use Rattle.effect.proofs.Laws.{apply_then, then_normal, then_six, applied_at, at_most_complete, canonical}

-- rights: the second time changes nothing
lattice_twice : (r i m : ℕ) → min (max (min (max r i) m) i) m ≡ min (max r i) m
lattice_twice r i m = omega arith

rights_twice : (i m r : ℕ) → rights_after i m (rights_after i m r) ≡ rights_after i m r
rights_twice i m r = bit_ext _ _ (λ b. simp bit_after (lattice_twice (bit b r) (bit b i) (bit b m)))

-- counts: what is left falls by the drop, to 0
less_le : (r d : ℕ) → r ≤ 255 → less r d ≤ r
less_le r d h = elim (dec_le 255 r) [
  | yes k ↦ omega (arith, less_top r d)
  | no k ↦ omega (arith, less_finite r d (omega arith))
]

after_twice : (c d r : ℕ) → count_after c d (count_after c d r) ≤ count_after c d r
after_twice c d r = elim (dec_le 256 d) [
  | yes k ↦ omega (arith, after_none c d (count_after c d r) k, after_none c d r k)
  | no k ↦ omega (arith, after_some c d (count_after c d r) (omega arith), less_le (count_after c d r) d (after_top c d r))
]

less_drops : (c q : ℕ) → c < 255 → less c (counted q) ≡ c - q
less_drops c q h = omega (arith, less_finite c (counted q) h)

cap_next : (c d q : ℕ) → d < 256 → then_cap (less c (counted q)) c d ≡ less c (counted (q + d))
cap_next c d q h = elim (dec_le 255 c) [
  | yes k ↦
      let a = less_endless c (counted q) k in
      omega (arith, cap_some (less c (counted q)) c d h, less_endless (less c (counted q)) d (omega arith), less_endless c (counted (q + d)) k)
  | no k ↦
      let l : c < 255 = omega arith in
      let a = less_drops c q l in
      let b = less_finite (less c (counted q)) d (omega arith) in
      omega (arith, cap_some (less c (counted q)) c d h, less_drops c (q + d) l)
]

drop_next : (d q : ℕ) → d < 256 → sum_drop (sum_drop (counted q) d) d ≡ sum_drop (counted (q + d)) d
drop_next d q h = elim (dec_lt (q + d + d) 254) [
  | yes k ↦
      let a = sum_small (counted q) d (omega arith) in
      omega (arith, sum_small (sum_drop (counted q) d) d (omega arith), sum_small (counted (q + d)) d (omega arith))
  | no k ↦ elim (dec_lt (q + d) 254) [
    | yes l ↦
        let a = sum_small (counted q) d (omega arith) in
        omega (arith, sum_large (sum_drop (counted q) d) d h (omega arith) (omega arith), sum_large (counted (q + d)) d h (omega arith) (omega arith))
    | no l ↦
        let a = sum_large (counted q) d h (omega arith) (omega arith) in
        omega (arith, sum_large (sum_drop (counted q) d) d h (omega arith) (omega arith), sum_large (counted (q + d)) d h (omega arith) (omega arith))
  ]
]

after_next : (c d k r : ℕ) → d < 256
    → count_after c d (count_after (less c (earlier_drop (suc k) d)) (sum_drop (earlier_drop (suc k) d) d) r)
    ≡ count_after (less c (earlier_drop (suc (suc k)) d)) (sum_drop (earlier_drop (suc (suc k)) d) d) r
unfolding earlier_drop
after_next c d k r h =
    let q = k * d in
    let p : (suc k - 1) * d ≡ q = let e : suc k - 1 ≡ k = omega arith in ap (λ n. n * d) e in
    let p' : (suc (suc k) - 1) * d ≡ q + d = let e : suc (suc k) - 1 ≡ suc k = omega arith in ap (λ n. n * d) e ∙ suc-mul k d in
    rw (p, p')
    (sym (after_then (less c (counted q)) (sum_drop (counted q) d) c d r) ∙ (λ i. count_after (cap_next c d q h i) (drop_next d q h i) r))

-- one time
after_once : (c d r : ℕ) → d < 256 → count_after (less c (earlier_drop 1 d)) (sum_drop (earlier_drop 1 d) d) r ≡ count_after c d r
unfolding earlier_drop
after_once c d r h =
    let z = zero-mul d in
    let p : counted ((1 - 1) * d) ≡ 0 = omega arith in
    rw p (elim (dec_lt d 254) [
      | yes l ↦
          let s : sum_drop 0 d ≡ d = omega (arith, sum_small 0 d (omega arith)) in
          rw s (omega (arith, after_some (less c 0) d r h, after_some c d r h, top))
      | no l ↦
          let s : sum_drop 0 d ≡ 255 = sum_large 0 d h (omega arith) (omega arith) in
          rw s (omega (arith, after_some (less c 0) 255 r (omega arith), after_some c d r h, top, swept (omega arith)))
    ])
  where
    top : less c 0 ≡ counted c
    top = elim (dec_le 255 c) [
      | yes k ↦ omega (arith, less_endless c 0 k)
      | no k ↦ omega (arith, less_finite c 0 (omega arith))
    ]

    swept : 254 ≤ d → less r 255 ≡ less r d
    swept l = elim (dec_le 255 r) [
      | yes k ↦ less_endless r 255 k ∙ sym (less_endless r d k)
      | no k ↦ omega (arith, less_finite r 255 (omega arith), less_finite r d (omega arith))
    ]

-- one type
module _ (x : One) where
  apply_none : (k : ℕ) (h : Held) → 256 ≤ x.drop → apply_one (times_one x k) h ≡ apply_one x h
  apply_none k h n = ap (λ y. apply_one y h) (times_none x k n) ∙ one_form x h

  apply_some : (k : ℕ) (h : Held) → x.drop < 256 → apply_one (times_one x k) h ≡ apply_one (many x k) h
  apply_some k h n = ap (λ y. apply_one y h) (times_some x k n) ∙ one_form (many x k) h

  one_times_normal : (k : ℕ) → normal_one (times_one x k) ≡ true
  one_times_normal k = elim (dec_le 256 x.drop) [
    | yes n ↦ rw (times_none x k n) (form_normal x)
    | no n ↦ let l : x.drop < 256 = omega arith in rw (times_some x k l) (form_normal (many x k))
  ]

  one_once : (h : Held) → apply_one (times_one x 1) h ≡ apply_one x h
  unfolding apply_one
  one_once h = elim (dec_le 256 x.drop) [
    | yes n ↦ apply_none 1 h n
    | no n ↦
        let l : x.drop < 256 = omega arith in
        apply_some 1 h l
        ∙ (λ i. record { rights = rights_after x.keepin x.keepmax h.rights; count = after_once x.cap x.drop h.count l i })
  ]

  one_next : (k : ℕ) (h : Held) → apply_one x (apply_one (times_one x (suc k)) h) ≡ apply_one (times_one x (suc (suc k))) h
  unfolding apply_one
  one_next k h = elim (dec_le 256 x.drop) [
    | yes n ↦
        let r = count_after x.cap x.drop h.count in
        let e : count_after x.cap x.drop r ≡ r = after_none x.cap x.drop r n ∙ sym (after_none x.cap x.drop h.count n) in
        ap (apply_one x) (apply_none (suc k) h n)
        ∙ (λ i. record { rights = rights_twice x.keepin x.keepmax h.rights i; count = e i })
        ∙ sym (apply_none (suc (suc k)) h n)
    | no n ↦
        let l : x.drop < 256 = omega arith in
        ap (apply_one x) (apply_some (suc k) h l)
        ∙ (λ i. record {
          rights = rights_twice x.keepin x.keepmax h.rights i;
          count = after_next x.cap x.drop k h.count l i;
        })
        ∙ sym (apply_some (suc (suc k)) h l)
  ]

  one_twice : (h : Held) → HeldBelow (apply_one x (apply_one x h)) (apply_one x h)
  unfolding apply_one
  one_twice h =
      record {
        every_right = λ b. omega (arith, ap (bit b) (rights_twice x.keepin x.keepmax h.rights));
        the_count = omega (arith, after_twice x.cap x.drop h.count);
      }

-- six types
pub times_normal : (x : Effect) (n : ℕ) → normal_of (times_of x n) ≡ true
unfolding normal_of times_of
times_normal x n = all_i (λ k. normal_one (times_one (one_at x k) n)) (λ k h. one_times_normal (one_at x k) n)

apply_once : (x : Effect) (s : Stock) → apply_of (times_of x 1) s ≡ apply_of x s
unfolding apply_of times_of
apply_once x s = λ i. stock_of (λ k. one_once (one_at x k) (held_at s k) i)

apply_next : (x : Effect) (n : ℕ) (s : Stock) → apply_of x (apply_of (times_of x (suc n)) s) ≡ apply_of (times_of x (suc (suc n))) s
unfolding apply_of times_of
apply_next x n s = λ i. stock_of (λ k. one_next (one_at x k) n (held_at s k) i)

none_is_one : (x : Effect) → times_of x 0 ≡ times_of x 1
unfolding times_of times_one earlier_drop
none_is_one x = refl

-- the closed form is the plain repetition
pub apply_times : (x : Effect) (n : ℕ) (s : Stock) → apply_of (times_of x n) s ≡ again_of x n s
unfolding again_of
apply_times x zero s = ap (λ a. apply_of a s) (none_is_one x) ∙ apply_once x s
apply_times x (suc zero) s = apply_once x s
apply_times x (suc (suc n)) s = sym (apply_next x n s) ∙ ap (apply_of x) (apply_times x (suc n) s)

-- once, behind another
pub then_once : (a x : Effect) → then_of a (times_of x 1) ≡ then_of a x
then_once a x =
    canonical (then_of a (times_of x 1)) (then_of a x) (then_normal a (times_of x 1)) (then_normal a x) (then_six a (times_of x 1)) (then_six a x)
    (λ s. apply_then a (times_of x 1) s ∙ apply_once x (apply_of a s) ∙ sym (apply_then a x s))

-- and once more
pub times_next : (x : Effect) (n : ℕ) → then_of (times_of x (suc n)) x ≡ times_of x (suc (suc n))
unfolding times_of
times_next x n =
    canonical (then_of (times_of x (suc n)) x) (times_of x (suc (suc n))) (then_normal (times_of x (suc n)) x) (times_normal x (suc (suc n))) (then_six (times_of x (suc n)) x) refl
    (λ s. apply_then (times_of x (suc n)) x s ∙ apply_next x n s)

-- twice leaves at most what once leaves
pub twice_below : (x : Effect) → at_most_of (then_of x x) x ≡ true
twice_below x =
    at_most_complete (then_of x x) x
    (λ s k h. let twice : held_at (apply_of (then_of x x) s) k ≡ apply_one (one_at x k) (apply_one (one_at x k) (held_at s k)) =
    ap (λ t. held_at t k) (apply_then x x s) ∙ applied_at x (apply_of x s) k h ∙ ap (apply_one (one_at x k)) (applied_at x s k h) in
    below_along twice (applied_at x s k h) (one_twice (one_at x k) (held_at s k)))
