-- The order of caps and drops: the test is the meaning, and normal forms are told apart by it.
use Prim.Native.Nat.{ℕ, ◌+◌, ◌≤◌, ◌<◌, min}
use mathlib.Core.Bool.{true}
use mathlib.Core.Path.{◌≡◌, sym, ◌∙◌, ap}
use mathlib.Core.Logic.{⊎_elim}
use native.Mathlib.Omega.{arith}
use native.Mathlib.Decide.{ℕ_discrete, dec_le}
use lib.Dec.{leb, eqb}
use borrow.Author.Tests.{eq-eqb, le-leb, eqb-true, leb-true}
use Rattle.effect_number.specs.Number.{counted, less, count_after}
use Rattle.effect_number.specs.Formulas.{norm_drop, rank, count_at_most}
use Rattle.effect_number.proofs.Cases.{less_endless, less_finite, left_none, left_some, norm_zero, norm_none, norm_254, norm_keep, rank_none, rank_some}
use Rattle.effect.proofs.Bools.{and_l, and_r, and_i, or_e, or_l, or_r}
use Rattle.effect.proofs.Count.{less_order, left_le}

-- the test as facts
pub data Under (c d e f : ℕ) : Type 0 where
  nothing : c ≡ 0 → Under c d e f
  under : counted c ≤ e → rank f ≤ rank d → Under c d e f

pub under_true : (c d e f : ℕ) → count_at_most c d e f ≡ true → Under c d e f
unfolding count_at_most
under_true c d e f t =
    ⊎_elim (λ p. nothing (eqb-true c 0 p))
    (λ p. let l = leb-true c e (and_l (leb c e) _ p) in under (omega arith) (leb-true (rank f) (rank d) (and_r (leb c e) _ p)))
    (or_e (eqb c 0) _ t)

pub true_under : (c d e f : ℕ) → c ≤ 255 → Under c d e f → count_at_most c d e f ≡ true
unfolding count_at_most
true_under c d e f h (nothing p) = or_l _ (eq-eqb c 0 p)
true_under c d e f h (under p q) = or_r (eqb c 0) (and_i (le-leb c e (omega arith)) (le-leb (rank f) (rank d) q))

after_le : (c d r : ℕ) → count_after c d r ≤ counted c
unfolding count_after
after_le c d r = omega (arith, left_le c d r)

pub after_none : (c d r : ℕ) → 256 ≤ d → count_after c d r ≡ counted c
unfolding count_after
after_none c d r h = ap counted (left_none c d r h)

pub after_some : (c d r : ℕ) → d < 256 → count_after c d r ≡ counted (min c (less r d))
unfolding count_after
after_some c d r h = ap counted (left_some c d r h)

-- the test says the meaning
pub under_sound : (c d e f r : ℕ) → Under c d e f → count_after c d r ≤ count_after e f r
under_sound c d e f r (nothing p) = omega (arith, after_le c d r)
under_sound c d e f r (under p q) = elim (dec_le 256 f) [
  | yes k ↦ omega (arith, after_none e f r k, after_le c d r)
  | no k ↦
      let a : f < 256 = omega arith in
      elim (dec_le 256 d) [
        | yes j ↦ absurd (omega (arith, rank_some f a, rank_none d j))
        | no j ↦
            let b : d < 256 = omega arith in
            let l : f ≤ d = omega (arith, rank_some f a, rank_some d b) in
            omega (arith, after_some c d r b, after_some e f r a, less_order r r d f (omega arith) l)
      ]
]

-- a count up to the drop leaves nothing, and one above it leaves 1
none_left : (e f r : ℕ) → r ≤ f → r < 255 → f < 256 → count_after e f r ≡ 0
none_left e f r h l k = omega (arith, after_some e f r k, less_finite r f l)

one_left : (c d : ℕ) → 1 ≤ c → d < 254 → count_after c d (d + 1) ≡ 1
one_left c d h l = omega (arith, after_some c d (d + 1) (omega arith), less_finite (d + 1) d (omega arith))

all_left : (c d : ℕ) → count_after c d 255 ≡ counted c
all_left c d = elim (dec_le 256 d) [
  | yes h ↦ after_none c d 255 h
  | no h ↦ omega (arith, after_some c d 255 (omega arith), less_endless 255 d (omega arith))
]

-- and where the meaning holds the test does
pub under_complete : (c d e f : ℕ) → norm_drop c d ≡ d → ((r : ℕ) → count_after c d r ≤ count_after e f r) → Under c d e f
under_complete c d e f n h = elim (ℕ_discrete c 0) [
  | yes z ↦ nothing z
  | no z ↦ under (omega (arith, all_left c d, after_le e f 255, h 255)) (drops z)
]
  where
    drops : (c ≡ 0 → ⊥) → rank f ≤ rank d
    drops z = elim (dec_le 256 f) [
      | yes k ↦ omega (arith, rank_none f k)
      | no k ↦
          let a : f < 256 = omega arith in
          elim (dec_le 256 d) [
            | yes j ↦ absurd (omega (arith, after_none c d 0 j, none_left e f 0 (omega arith) (omega arith) a, h 0))
            | no j ↦ elim (dec_le f d) [
              | yes t ↦ omega (arith, rank_some f a, rank_some d (omega arith))
              | no t ↦
                  let i : d ≡ 254 → ⊥ = λ p. omega (arith, norm_254 c d z p) in
                  let b : d < 254 = omega arith in
                  absurd (omega (arith, h (d + 1), one_left c d (omega arith) b, none_left e f (d + 1) (omega arith) (omega arith) a))
            ]
          ]
    ]

-- what a normal form is
pub norm_le : (c d : ℕ) → norm_drop c d ≤ 256
norm_le c d = elim (ℕ_discrete c 0) [
  | yes z ↦ omega (arith, norm_zero c d z)
  | no z ↦ elim (dec_le 256 d) [
    | yes k ↦ omega (arith, norm_none c d z k)
    | no k ↦ elim (ℕ_discrete d 254) [
      | yes p ↦ omega (arith, norm_254 c d z p)
      | no p ↦ omega (arith, norm_keep c d z (omega arith) p)
    ]
  ]
]

pub norm_kept : (c d : ℕ) → norm_drop (counted c) (norm_drop c d) ≡ norm_drop c d
norm_kept c d = elim (ℕ_discrete c 0) [
  | yes z ↦ norm_zero (counted c) (norm_drop c d) (omega arith) ∙ sym (norm_zero c d z)
  | no z ↦
      let w : counted c ≡ 0 → ⊥ = omega arith in
      elim (dec_le 256 d) [
        | yes k ↦ rw (norm_none c d z k) (norm_none (counted c) 256 w (omega arith))
        | no k ↦ elim (ℕ_discrete d 254) [
          | yes p ↦ rw (norm_254 c d z p) (norm_keep (counted c) 255 w (omega arith) (omega arith))
          | no p ↦ rw (norm_keep c d z (omega arith) p) (norm_keep (counted c) d w (omega arith) p)
        ]
      ]
]

-- its drop keeps to the form exactly if it is of the form
pub kept_254 : (c d : ℕ) → norm_drop c d ≡ d → d ≡ 254 → ⊥
kept_254 c d n p = elim (ℕ_discrete c 0) [
  | yes z ↦ omega (arith, norm_zero c d z)
  | no z ↦ omega (arith, norm_254 c d z p)
]

pub form_kept : (c d : ℕ) → d ≤ 256 → (c ≡ 0 → d ≡ 256) → (d ≡ 254 → ⊥) → norm_drop c d ≡ d
form_kept c d h o n = elim (ℕ_discrete c 0) [
  | yes z ↦ norm_zero c d z ∙ sym (o z)
  | no z ↦ elim (dec_le 256 d) [
    | yes k ↦ omega (arith, norm_none c d z k)
    | no k ↦ norm_keep c d z (omega arith) n
  ]
]

pub rank_le : (d : ℕ) → rank d ≤ 256
rank_le d = elim (dec_le 256 d) [
  | yes h ↦ omega (arith, rank_none d h)
  | no h ↦ omega (arith, rank_some d (omega arith))
]

rank_inj : (d f : ℕ) → d ≤ 256 → f ≤ 256 → rank d ≡ rank f → d ≡ f
rank_inj d f h k e = elim (dec_le 256 d) [
  | yes p ↦ elim (dec_le 256 f) [
    | yes q ↦ omega arith
    | no q ↦ omega (arith, rank_none d p, rank_some f (omega arith))
  ]
  | no p ↦ elim (dec_le 256 f) [
    | yes q ↦ omega (arith, rank_some d (omega arith), rank_none f q)
    | no q ↦ omega (arith, rank_some d (omega arith), rank_some f (omega arith))
  ]
]

pub under_anti : (c d e f : ℕ) → c ≤ 255 → e ≤ 255 → norm_drop c d ≡ d → norm_drop e f ≡ f → Under c d e f → Under e f c d → (c ≡ e) × (d ≡ f)
under_anti c d e f hc he m n = go
  where
    zeros : c ≡ 0 → e ≡ 0 → (c ≡ e) × (d ≡ f)
    zeros p q = (omega arith, omega (arith, norm_zero c d p, norm_zero e f q))

    go : Under c d e f → Under e f c d → (c ≡ e) × (d ≡ f)
    go (nothing p) (nothing q) = zeros p q
    go (nothing p) (under q s) = zeros p (omega arith)
    go (under q s) (nothing p) = zeros (omega arith) p
    go (under p q) (under v w) =
        (omega arith, rank_inj d f (omega (arith, norm_le c d)) (omega (arith, norm_le e f)) (omega arith))
