-- Two blocks compared type by type on their words.
use Prim.Native.Nat.{ℕ, ◌+◌, ◌*◌, ◌≤◌, ◌<◌}
use mathlib.Core.Path.{◌≡◌, refl, sym, ap, subst, ◌∙◌}
use mathlib.Core.Bool.{Bool, true, false, cond, not}
use mathlib.Core.List.{List}
use lib.Dec.{ltb, eqb}
use lib.Bits.{bit_or, and_le_r}
use borrow.Author.Tests.{ltb-true, ltb-false, ne_eqb}
use native.Mathlib.Decide.{dec_lt}
use native.Mathlib.Omega.{arith}
use Rattle.std.specs.Prelude.{MatchOption}
use Rattle.std.specs.declared.option.Option.{Option}
use Rattle.std.specs.declared.option.Option.TheVariants.{None, Some}
use Rattle.std.specs.Option.{unwrap_or}
use Rattle.words.specs.Bytes.{word_at}
use Rattle.words.specs.Four.{four_at}
use Rattle.words.proofs.Read.{word_lt}
use Rattle.words.proofs.Four.{four_same}
use Rattle.words.proofs.Lowest.{lowest_is, lowest_none}
use Rattle.effect_one.specs.declared.Held.{Held}
use Rattle.effect_one.specs.declared.One.{One}
use Rattle.effect_one.specs.Single.{idle, apply_one}
use Rattle.effect_one.specs.Formulas.{then_one, at_most_one}
use Rattle.effect.specs.declared.Effect.{Effect}
use Rattle.effect.specs.Six.{held_at, stock_of, one_at, effect_of}
use Rattle.effect.specs.Whole.{one_if, nothing_done, apply_of, then_of, fails_of}
use Rattle.effect.proofs.Count.{after_top}
use Rattle.effect.proofs.Six.{stock_at_lem, effect_at_lem}
use Rattle.effect.proofs.Single.{below_along, one_then, one_sound, one_complete, one_refl}
use Rattle.effect.proofs.Laws.{Fits, apply_nothing}
use Rattle.effect.proofs.Types.{then_idle}
use Rattle.effect_number.specs.Number.{rights_after}
use Rattle.sheet.specs.Read.{sheet_word, effect_at}
use Rattle.sheet.specs.Inner.{one_words, of_types}
use Rattle.sheet.proofs.Same.{six_same}
use Rattle.sheet.proofs.Types.{one_read, idle_read}

-- words that are the same are the same effect
pub ones_same : (s : List ℕ) (v w k : ℕ) → four_at s (2 * (v + (1 + 4 * k))) ≡ four_at s (2 * (w + (1 + 4 * k))) → one_words s v k ≡ one_words s w k
unfolding one_words
ones_same s v w k e =
    let h = four_same s (2 * (v + (1 + 4 * k))) (2 * (w + (1 + 4 * k))) e in
    λ i. record {
      keepin = h.first i;
      keepmax = (at 1 v ∙ h.second ∙ sym (at 1 w)) i;
      cap = (at 2 v ∙ h.third ∙ sym (at 2 w)) i;
      drop = (at 3 v ∙ h.fourth ∙ sym (at 3 w)) i;
    }
  where
    at : (j u : ℕ) → sheet_word s (u + (1 + j + 4 * k)) ≡ word_at s (2 * (u + (1 + 4 * k)) + 2 * j)
    at j u = ap (word_at s) (omega arith)

pub same_under : (s : List ℕ) (v w k : ℕ) → four_at s (2 * (v + (1 + 4 * k))) ≡ four_at s (2 * (w + (1 + 4 * k))) → at_most_one (one_words s v k) (one_words s w k) ≡ true
same_under s v w k e = rw (ones_same s v w k e) (one_refl (one_words s w k))

-- nothing done after an effect whose keep-max is a word leaves what the effect leaves
idle_same : (h : Held) → Fits h → apply_one idle h ≡ h
unfolding apply_of nothing_done
idle_same h f = λ i. held_at (apply_nothing (stock_of (λ k. h)) refl (λ k l. subst Fits (sym (stock_at_lem (λ j. h) k l)) f) i) 0

left_fits : (x : One) (h : Held) → x.keepmax < 65536 → Fits (apply_one x h)
unfolding apply_one rights_after
left_fits x h w = (omega (arith, and_le_r (bit_or h.rights x.keepin) x.keepmax), after_top x.cap x.drop h.count)

both_ways : (a b : Bool) → (a ≡ true → b ≡ true) → (b ≡ true → a ≡ true) → a ≡ b
both_ways true b p q = sym (p refl)
both_ways false true p q = q refl
both_ways false false p q = refl

-- so it is compared as the effect is
pub idle_under : (a x : One) → x.keepmax < 65536 → at_most_one a x ≡ at_most_one a (then_one x idle)
idle_under a x w =
    both_ways (at_most_one a x) (at_most_one a (then_one x idle))
    (λ p. one_complete a (then_one x idle) (λ h. below_along refl (left h) (one_sound a x p h)))
    (λ p. one_complete a x (λ h. below_along refl (sym (left h)) (one_sound a (then_one x idle) p h)))
  where
    left : (h : Held) → apply_one (then_one x idle) h ≡ apply_one x h
    left h = one_then x idle h ∙ idle_same (apply_one x h) (left_fits x h w)

pub word_small : (s : List ℕ) (w k : ℕ) → (one_words s w k).keepmax < 65536
unfolding one_words
word_small s w k = word_lt s (2 * (w + (2 + 4 * k)))

-- what the block at w, then y for the type n, does to type k, and the test of it: the block at v against that
abbrev pub step_at : List ℕ → ℕ → ℕ → One → ℕ → One
step_at s w n y k = then_one (one_words s w k) (one_if (eqb k n) y)

abbrev pub under_at : List ℕ → ℕ → ℕ → ℕ → One → ℕ → Bool
under_at s v w n y k = at_most_one (one_words s v k) (step_at s w n y k)

idle_idle : (x : One) → x ≡ idle → at_most_one idle (then_one idle x) ≡ true
unfolding idle
idle_idle x e = rw e (sym (idle_under idle idle (omega arith)) ∙ one_refl idle)

module _ (s : List ℕ) (t v w n : ℕ) (y : One) (few : t ≤ 6) (own : n < t) where
  abbrev Step : Effect
  Step = effect_of (λ k. one_if (eqb k n) y)

  abbrev After : Effect
  After = then_of (effect_at s t w) Step

  own_at : (k : ℕ) → k < 6 → one_at Step k ≡ one_if (eqb k n) y
  own_at = effect_at_lem (λ k. one_if (eqb k n) y)

  after_at : (k : ℕ) → k < 6 → one_at After k ≡ then_one (one_at (effect_at s t w) k) (one_if (eqb k n) y)
  unfolding then_of
  after_at k l = effect_at_lem (λ k. then_one (one_at (effect_at s t w) k) (one_at Step k)) k l ∙ ap (then_one (one_at (effect_at s t w) k)) (own_at k l)

  other_idle : (k : ℕ) → t ≤ k → one_if (eqb k n) y ≡ idle
  other_idle k u = ap (λ (b : Bool). one_if b y) (ne_eqb k n (λ e. omega arith))

  -- type by type it is the whole
  pub step_all : of_types (step_at s w n y) t ≡ After
  unfolding then_of idle of_types
  step_all =
      λ i. record {
        keepin = six_same (λ k l. field (λ x. x.keepin) k l (ltb k t) refl) i;
        keepmax = six_same (λ k l. field (λ x. x.keepmax) k l (ltb k t) refl) i;
        cap = six_same (λ k l. field (λ x. x.cap) k l (ltb k t) refl) i;
        drop = six_same (λ k l. field (λ x. x.drop) k l (ltb k t) refl) i;
      }
    where
      whole : ℕ → One
      whole k = then_one (one_at (effect_at s t w) k) (one_at Step k)

      field : (g : One → ℕ) (k : ℕ) → k < 6 → (b : Bool) → ltb k t ≡ b → cond b (g (step_at s w n y k)) (g idle) ≡ g (whole k)
      field g k l true q = sym (ap g (λ i. then_one (one_read s t w k (ltb-true k t q) l i) (own_at k l i)))
      field g k l false q =
          let u : t ≤ k = ltb-false k t q in
          ap g (sym ((λ i. then_one (idle_read s t w k u l i) ((own_at k l ∙ other_idle k u) i)) ∙ then_idle))

  type_had : (k : ℕ) → k < t → at_most_one (one_at (effect_at s t v) k) (one_at After k) ≡ under_at s v w n y k
  type_had k u =
      let l : k < 6 = omega arith in
      λ i. at_most_one (one_read s t v k u l i) ((after_at k l ∙ ap (λ (x : One). then_one x (one_if (eqb k n) y)) (one_read s t w k u l)) i)

  type_past : (k : ℕ) → t ≤ k → k < 6 → at_most_one (one_at (effect_at s t v) k) (one_at After k) ≡ true
  type_past k u l =
      let a = after_at k l ∙ ap (λ (x : One). then_one x (one_if (eqb k n) y)) (idle_read s t w k u l) in
      (λ i. at_most_one (idle_read s t v k u l i) (a i)) ∙ idle_idle (one_if (eqb k n) y) (other_idle k u)

  -- what `find` over the types that the file has gives, or 6
  pub step_find : (r : Option ℕ)
      → MatchOption r ((k : ℕ) → 0 ≤ k → k < t → not (under_at s v w n y k) ≡ false)
      (λ i. (0 ≤ i) × (i < t) × (not (under_at s v w n y i) ≡ true) × ((k : ℕ) → 0 ≤ k → k < i → not (under_at s v w n y k) ≡ false))
      → unwrap_or r 6 ≡ fails_of (effect_at s t v) After
  unfolding fails_of
  step_find None h =
      sym (lowest_none _ 6
      (λ j l. elim (dec_lt j t) [
        | yes u ↦ ap not (type_had j u) ∙ h j (omega arith) u
        | no u ↦ ap not (type_past j (omega arith) l)
      ]))
  step_find (Some i) h =
      sym (lowest_is _ 6 i (λ j l. ap not (type_had j (omega (arith, h.1))) ∙ h.3 j (omega arith) l) (omega (arith, h.1)) (ap not (type_had i h.1) ∙ h.2))
