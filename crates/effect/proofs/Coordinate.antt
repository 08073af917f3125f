-- The laws of stocks and effects at one coordinate, where only that coordinate matters.
--   apply_mono, apply_nothing, apply_then, apply_both, at_lower
--   the steps: apply_grant, apply_draw
--   of one type: below_at, at_below
--   the tests: stock_at_sound, stock_at_complete, at_most_at_sound, at_most_at_complete
--   a draw: covers_sound, covers_complete; Asked, covers_asked, uncovered
use Prim.Native.Nat.{ℕ, zero, suc, ◌≤◌, ◌<◌, min}
use mathlib.Core.Path.{◌≡◌, refl, sym, ◌∙◌, ap}
use mathlib.Core.Bool.{true}
use mathlib.Core.List.{List}
use mathlib.Core.Logic.{◌⊎◌, inl, inr, ⊎_elim}
use native.Mathlib.Omega.{arith}
use native.Mathlib.Decide.{ℕ_discrete, dec_le, dec_lt}
use lib.Bits.{and_le_r, bit_or}
use lib.Dec.{ltb, eqb}
use lib.ListN.{get_or}
use borrow.Author.Tests.{le-leb, leb-true, ltb-true, lt-ltb, eq-eqb, ne_eqb}
use Rattle.effect_one.specs.declared.Held.{Held}
use Rattle.effect_one.specs.declared.One.{One}
use Rattle.effect_number.specs.Number.{pick, counted, less, rights_after}
use Rattle.effect_number.specs.Formulas.{within}
use Rattle.effect_one.specs.Single.{idle, apply_one}
use Rattle.effect_one.specs.Formulas.{drawn, granted, lower_held, covers_held}
use Rattle.effect.specs.declared.Stock.{Stock}
use Rattle.effect.specs.declared.Effect.{Effect}
use Rattle.effect.specs.Six.{held_at, one_at, effect_of}
use Rattle.effect.specs.Whole.{nothing_done, one_if, draw_of, grant_of, apply_of, then_of, both_of, at_most_of, stock_at_most_of, lower_of, covers_of}
use Rattle.effect.specs.Coordinate.{bit, Coordinate, right, count, type_of, at}
use Rattle.effect.specs.Meaning.{Below, AtMost, BelowAt, with_at, replaced, one_taken, Covers}
use Rattle.effect.proofs.Bools.{and_l, and_r, and_i}
use Rattle.effect.proofs.Bit.{bit_lt, bit_and_lem, word_bits, within_bit, bit_within}
use Rattle.effect.proofs.Count.{after_mono, after_nothing}
use Rattle.effect.proofs.Rights.{rights_mono, rights_nothing}
use Rattle.effect.proofs.Six.{below_six, effect_at_lem}
use Rattle.effect.proofs.Single.{HeldBelow, one_granted, one_drawn}
use Rattle.effect.proofs.Laws as laws

-- a coordinate's type is one of the six; what is seen of one type
pub type_lt : (i : Coordinate) → type_of i < 6
type_lt (right k b h l) = h
type_lt (count k h) = h

abbrev pub seen : Coordinate → Held → ℕ
seen (right k b h l) g = bit b g.rights
seen (count k h) g = counted g.count

pub at_seen : (i : Coordinate) (s : Stock) → at i s ≡ seen i (held_at s (type_of i))
unfolding at
at_seen (right k b h l) s = refl
at_seen (count k h) s = refl

at_apply : (i : Coordinate) (e : Effect) (s : Stock) → at i (apply_of e s) ≡ seen i (apply_one (one_at e (type_of i)) (held_at s (type_of i)))
at_apply i e s = at_seen i (apply_of e s) ∙ ap (seen i) (laws.applied_at e s (type_of i) (type_lt i))

seen_mono : (x : One) (i : Coordinate) (h g : Held) → seen i h ≤ seen i g → seen i (apply_one x h) ≤ seen i (apply_one x g)
unfolding apply_one
seen_mono x (right k b _ _) h g l = rights_mono b x.keepin x.keepmax h.rights g.rights l
seen_mono x (count k _) h g l = omega (arith, after_mono x.cap x.drop h.count g.count l)

pub apply_mono : (e : Effect) (i : Coordinate) (s t : Stock) → at i s ≤ at i t → at i (apply_of e s) ≤ at i (apply_of e t)
apply_mono e i s t h =
    omega (
      arith,
      at_apply i e s,
      at_apply i e t,
      seen_mono (one_at e (type_of i)) i (held_at s (type_of i)) (held_at t (type_of i)) (omega (arith, at_seen i s, at_seen i t)),
    )

seen_nothing : (i : Coordinate) (h : Held) → seen i (apply_one idle h) ≡ seen i h
unfolding apply_one idle
seen_nothing (right k b _ l) h = rights_nothing b h.rights l
seen_nothing (count k _) h = omega (arith, after_nothing h.count)

pub apply_nothing : (i : Coordinate) (s : Stock) → at i (apply_of nothing_done s) ≡ at i s
unfolding nothing_done
apply_nothing i s =
    at_apply i nothing_done s ∙ ap (λ (x : One). seen i (apply_one x (held_at s (type_of i)))) (effect_at_lem (λ k. idle) (type_of i) (type_lt i))
    ∙ seen_nothing i (held_at s (type_of i)) ∙ sym (at_seen i s)

seen_lower : (i : Coordinate) (h g : Held) → seen i (lower_held h g) ≡ min (seen i h) (seen i g)
unfolding lower_held
seen_lower (right k b _ _) h g = bit_and_lem b h.rights g.rights
seen_lower (count k _) h g = omega arith

pub at_lower : (i : Coordinate) (s t : Stock) → at i (lower_of s t) ≡ min (at i s) (at i t)
at_lower i s t =
    at_seen i (lower_of s t) ∙ ap (seen i) (laws.lower_at s t (type_of i) (type_lt i))
    ∙ seen_lower i (held_at s (type_of i)) (held_at t (type_of i)) ∙ sym (λ j. min (at_seen i s j) (at_seen i t j))

pub apply_then : (a b : Effect) (i : Coordinate) (s : Stock) → at i (apply_of (then_of a b) s) ≡ at i (apply_of b (apply_of a s))
apply_then a b i s = ap (at i) (laws.apply_then a b s)

pub apply_both : (a b : Effect) (i : Coordinate) (s : Stock) → at i (apply_of (both_of a b) s) ≡ min (at i (apply_of a s)) (at i (apply_of b s))
apply_both a b i s = ap (at i) (laws.apply_both a b s) ∙ at_lower i (apply_of a s) (apply_of b s)

-- what is done to type t alone is seen there, and nothing of it elsewhere
abbrev only : ℕ → One → Effect
only t x = effect_of (λ k. one_if (eqb k t) x)

at_only : (t : ℕ) (x : One) (i : Coordinate) (s : Stock) → at i (apply_of (only t x) s) ≡ seen i (apply_one (one_if (eqb (type_of i) t) x) (held_at s (type_of i)))
at_only t x i s =
    at_apply i (only t x) s ∙ ap (λ (y : One). seen i (apply_one y (held_at s (type_of i)))) (effect_at_lem (λ k. one_if (eqb k t) x) (type_of i) (type_lt i))

at_hit : (t : ℕ) (x : One) (i : Coordinate) (s : Stock) → type_of i ≡ t → at i (apply_of (only t x) s) ≡ seen i (apply_one x (held_at s (type_of i)))
at_hit t x i s e = at_only t x i s ∙ simp (eq-eqb (type_of i) t e)

at_other : (t : ℕ) (x : One) (i : Coordinate) (s : Stock) → (type_of i ≡ t → ⊥) → at i (apply_of (only t x) s) ≡ at i s
at_other t x i s n = at_only t x i s ∙ simp (ne_eqb (type_of i) t n) (seen_nothing i (held_at s (type_of i)) ∙ sym (at_seen i s))

-- with a number for type t, that number is found there, and elsewhere what was
with_found : (t v : ℕ) (l : List ℕ) (k : ℕ) → k < 6 → get_or (with_at t v l) k 0 ≡ pick (eqb k t) v (get_or l k 0)
unfolding with_at
with_found t v l = below_six (λ k. get_or (with_at t v l) k 0 ≡ pick (eqb k t) v (get_or l k 0)) refl refl refl refl refl refl

with_hit : (t v : ℕ) (l : List ℕ) (k : ℕ) → k < 6 → k ≡ t → get_or (with_at t v l) k 0 ≡ v
with_hit t v l k h e = with_found t v l k h ∙ simp (eq-eqb k t e)

with_other : (t v : ℕ) (l : List ℕ) (k : ℕ) → k < 6 → (k ≡ t → ⊥) → get_or (with_at t v l) k 0 ≡ get_or l k 0
with_other t v l k h n = with_found t v l k h ∙ simp (ne_eqb k t n)

-- a grant replaces rights and count of its type
seen_granted : (p m : ℕ) (i : Coordinate) (h : Held) → seen i (apply_one (granted p m) h) ≡ seen i (record { rights = p; count = m })
seen_granted p m i h = ap (seen i) (one_granted p m h) ∙ again i
  where
    again : (i : Coordinate) → seen i (record { rights = p; count = counted m }) ≡ seen i (record { rights = p; count = m })
    again (right k b _ _) = refl
    again (count k _) = omega arith

replaced_hit : (t p m : ℕ) (i : Coordinate) (s : Stock) → type_of i ≡ t → at i (replaced t p m s) ≡ seen i (record { rights = p; count = m })
unfolding at replaced
replaced_hit t p m (right k b h _) s e = ap (bit b) (with_hit t p s.rights k h e)
replaced_hit t p m (count k h) s e = ap counted (with_hit t m s.counts k h e)

replaced_other : (t p m : ℕ) (i : Coordinate) (s : Stock) → (type_of i ≡ t → ⊥) → at i (replaced t p m s) ≡ at i s
unfolding at replaced
replaced_other t p m (right k b h _) s n = ap (bit b) (with_other t p s.rights k h n)
replaced_other t p m (count k h) s n = ap counted (with_other t m s.counts k h n)

pub apply_grant : (t p m : ℕ) (i : Coordinate) (s : Stock) → at i (apply_of (grant_of t p m) s) ≡ at i (replaced t p m s)
unfolding grant_of
apply_grant t p m i s = elim (ℕ_discrete (type_of i) t) [
  | yes e ↦ at_hit t (granted p m) i s e ∙ seen_granted p m i (held_at s (type_of i)) ∙ sym (replaced_hit t p m i s e)
  | no n ↦ at_other t (granted p m) i s n ∙ sym (replaced_other t p m i s n)
]

-- a draw takes 1 of its type's count
pub apply_draw : (t : ℕ) (i : Coordinate) (s : Stock) → at i (apply_of (draw_of t) s) ≡ at i (one_taken t s)
unfolding draw_of at one_taken drawn apply_one
apply_draw t (right k b h l) s = elim (ℕ_discrete k t) [
  | yes e ↦ at_hit t drawn (right k b h l) s e ∙ rights_nothing b (held_at s k).rights l
  | no n ↦ at_other t drawn (right k b h l) s n
]
apply_draw t (count k h) s = elim (ℕ_discrete k t) [
  | yes e ↦
      let v = less (get_or s.counts t 0) 1 in
      at_hit t drawn (count k h) s e ∙ ap counted (one_drawn (held_at s k) ∙ ap (λ (j : ℕ). less (get_or s.counts j 0) 1) e ∙ sym (with_hit t v s.counts k h e))
  | no n ↦ at_other t drawn (count k h) s n ∙ sym (ap counted (with_other t (less (get_or s.counts t 0) 1) s.counts k h n))
]

-- of one type, a stock is below another if and, for rights that are words, only if it is at every coordinate of that type
pub below_at : (s t : Stock) (k : ℕ) → HeldBelow (held_at s k) (held_at t k) → BelowAt k s t
unfolding at
below_at s t k q (right j b _ _) e = rw e (q.every_right b)
below_at s t k q (count j _) e = rw e q.the_count

pub at_below : (s t : Stock) (k : ℕ) → k < 6 → (held_at s k).rights < 65536 → BelowAt k s t → HeldBelow (held_at s k) (held_at t k)
unfolding at
at_below s t k h w q =
    record {
      every_right = word_bits (held_at s k).rights (held_at t k).rights w (λ b l. q (right k b h l) refl);
      the_count = q (count k h) refl;
    }

pub stock_at_sound : (s t : Stock) → stock_at_most_of s t ≡ true → Below s t
stock_at_sound s t p i = below_at s t (type_of i) (laws.stock_sound s t p (type_of i) (type_lt i)) i refl

pub stock_at_complete : (s t : Stock) → ((k : ℕ) → k < 6 → (held_at s k).rights < 65536) → Below s t → stock_at_most_of s t ≡ true
stock_at_complete s t w q = laws.stock_complete s t (λ k h. at_below s t k h (w k h) (λ i e. q i))

pub at_most_at_sound : (a b : Effect) → at_most_of a b ≡ true → AtMost a b
at_most_at_sound a b p s i =
    below_at (apply_of a s) (apply_of b s) (type_of i) (laws.at_most_sound a b p s (type_of i) (type_lt i)) i refl

-- what an effect leaves is within its keep-max
pub applied_word : (e : Effect) (s : Stock) (k : ℕ) → k < 6 → (one_at e k).keepmax < 65536 → (held_at (apply_of e s) k).rights < 65536
unfolding apply_one rights_after
applied_word e s k h w =
    omega (
      arith,
      ap (λ (g : Held). g.rights) (laws.applied_at e s k h),
      and_le_r (bit_or (held_at s k).rights (one_at e k).keepin) (one_at e k).keepmax,
    )

pub at_most_at_complete : (a b : Effect) → laws.Words a → AtMost a b → at_most_of a b ≡ true
at_most_at_complete a b w q =
    laws.at_most_complete a b (λ s k h. at_below (apply_of a s) (apply_of b s) k h (applied_word a s k h (w k h)) (λ i e. q s i))

-- the test of a draw is the meaning
pub covers_sound : (s : Stock) (t p : ℕ) → covers_of s t p ≡ true → Covers s t p
unfolding covers_of covers_held
covers_sound s t p c =
    let w = within p (held_at s t).rights in
    let q = and_r (ltb t 6) _ c in
    record { a_type = ltb-true t 6 (and_l (ltb t 6) _ c); every_right = within_bit _ _ (and_l w _ q); a_count = leb-true _ _ (and_r w _ q) }

pub covers_complete : (s : Stock) (t p : ℕ) → Covers s t p → covers_of s t p ≡ true
unfolding covers_of covers_held
covers_complete s t p c =
    and_i (lt-ltb t 6 c.a_type) (and_i (bit_within _ _ c.every_right) (le-leb 1 (held_at s t).count c.a_count))

-- the coordinates that a draw of rights p of type t asks for: where it is covered, each has at least 1
pub data Asked (t p : ℕ) : Coordinate → Type 0 where
  asked_count : (h : t < 6) → Asked t p (count t h)
  asked_right : (b : ℕ) (h : t < 6) (l : b < 16) → bit b p ≡ 1 → Asked t p (right t b h l)

pub covers_asked : (s : Stock) (t p : ℕ) → Covers s t p → (i : Coordinate) → Asked t p i → 1 ≤ at i s
unfolding at
covers_asked s t p c _ (asked_count h) = omega (arith, c.a_count)
covers_asked s t p c _ (asked_right b h l e) = omega (arith, c.every_right b)

-- the first of n bits that p has and r has not, if there is one
abbrev Missing : ℕ → ℕ → ℕ → Type 0
Missing p r n = (b : ℕ) × (b < n) × (bit b p ≡ 1) × (bit b r < 1)

missing : (p r n : ℕ) → ((b : ℕ) → b < n → bit b p ≤ bit b r) ⊎ Missing p r n
missing p r zero = inl (λ b h. absurd (omega arith))
missing p r (suc n) = ⊎_elim here (λ m. inr (m.0, omega (arith, m.1), m.2, m.3)) (missing p r n)
  where
    here : ((b : ℕ) → b < n → bit b p ≤ bit b r) → ((b : ℕ) → b < suc n → bit b p ≤ bit b r) ⊎ Missing p r (suc n)
    here q = elim (dec_le (bit n p) (bit n r)) [
      | yes h ↦ inl (λ b l. elim (dec_lt b n) [
        | yes k ↦ q b k
        | no k ↦ let e : b ≡ n = omega arith in rw e h
      ])
      | no h ↦ inr (n, omega arith, omega (arith, bit_lt n p), omega (arith, bit_lt n p))
    ]

-- and where it is not covered, one of them has none
pub uncovered : (s : Stock) (t p : ℕ) → t < 6 → p < 65536 → (Covers s t p → ⊥) → (i : Coordinate) × Asked t p i × (at i s < 1)
unfolding at
uncovered s t p h w u =
    let r = (held_at s t).rights in
    let c = (held_at s t).count in
    elim (dec_le 1 c) [
      | no n ↦ (count t h, asked_count h, omega arith)
      | yes l ↦ ⊎_elim (λ q. absurd (u (record { a_type = h; every_right = word_bits p r w q; a_count = l })))
          (λ m. (right t m.0 h m.1, asked_right m.0 h m.1 m.2, m.3)) (missing p r 16)
    ]
