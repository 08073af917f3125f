-- The laws of stocks and effects, for every value unless a premise says otherwise.
--   then is composition      apply_then, then_assoc, then_mono, then_both_l, then_both_r
--   both is the smaller      apply_both, apply_lower, both_comm, both_left, both_right, both_greatest, both_same, lower_same
--   nothing done             apply_nothing, then_nothing_l, then_nothing_r, of effects with words for rights: both_words, then_words, nothing_words
--   every result is normal   nothing_normal, draw_normal, grant_normal, then_normal, both_normal, form_kept
--   the tests are exact      stock_sound, stock_complete, at_most_sound, at_most_complete
--   the order                apply_mono, at_most_refl, at_most_trans, at_most_anti, stock_anti, canonical
use Prim.Native.Nat.{ℕ, ◌≤◌, ◌<◌, min}
use mathlib.Core.Path.{◌≡◌, refl, sym, subst, ◌∙◌, ap}
use mathlib.Core.Bool.{Bool, true, false}
use native.Mathlib.Omega.{arith}
use native.Mathlib.Decide.{dec_lt}
use native.Mathlib.Nat.{min-eq_left}
use lib.Dec.{eqb}
use lib.Bits.{bit_or, and_comm, and_le_l, and_le_r}
use Rattle.effect_one.specs.declared.Held.{Held}
use Rattle.effect_one.specs.declared.One.{One}
use Rattle.effect_number.specs.Number.{counted, rights_after, count_after}
use Rattle.effect_number.specs.Formulas.{norm_drop, within}
use Rattle.effect_one.specs.Single.{idle, apply_one}
use Rattle.effect_one.specs.Formulas.{normal_form, normal_one, drawn, granted, then_one, both_one, at_most_one, held_at_most, lower_held}
use Rattle.effect.specs.declared.Stock.{Stock}
use Rattle.effect.specs.declared.Effect.{Effect}
use Rattle.effect.specs.Six.{held_at, stock_of, one_at, effect_of}
use Rattle.effect.specs.Whole.{normal_of, nothing_done, one_if, draw_of, grant_of, apply_of, then_of, both_of, at_most_of, stock_at_most_of, lower_of}
use Rattle.effect.specs.Coordinate.{bit}
use Rattle.effect.proofs.Bit.{bit_and_lem, bit_ext, bit_high}
use Rattle.effect.proofs.Rights.{bit_after, rights_nothing}
use Rattle.effect.proofs.Count.{after_nothing, after_mono, after_top}
use Rattle.effect.proofs.Six.{all_i, all_e, stock_at_lem, effect_at_lem, among_ext, SixHeld, SixOnes}
use Rattle.effect.proofs.Single.{HeldBelow, below_refl, below_trans, below_along, form_normal, form_same, one_then, one_both, one_lower, one_mono, held_sound, held_complete, one_refl, one_trans, one_sound, one_complete, one_anti}

pub apply_then : (a b : Effect) (s : Stock) → apply_of (then_of a b) s ≡ apply_of b (apply_of a s)
unfolding apply_of then_of
apply_then a b s = λ i. stock_of (λ k. one_then (one_at a k) (one_at b k) (held_at s k) i)

pub apply_both : (a b : Effect) (s : Stock) → apply_of (both_of a b) s ≡ lower_of (apply_of a s) (apply_of b s)
unfolding apply_of both_of lower_of
apply_both a b s = λ i. stock_of (λ k. one_both (one_at a k) (one_at b k) (held_at s k) i)

pub apply_lower : (e : Effect) (s t : Stock) → apply_of e (lower_of s t) ≡ lower_of (apply_of e s) (apply_of e t)
unfolding apply_of lower_of
apply_lower e s t = λ i. stock_of (λ k. one_lower (one_at e k) (held_at s k) (held_at t k) i)

-- every result is normal
pub then_normal : (a b : Effect) → normal_of (then_of a b) ≡ true
unfolding normal_of then_of then_one
then_normal a b = all_i (λ k. normal_one (then_one (one_at a k) (one_at b k))) (λ k h. form_normal _)

pub both_normal : (a b : Effect) → normal_of (both_of a b) ≡ true
unfolding normal_of both_of both_one
both_normal a b = all_i (λ k. normal_one (both_one (one_at a k) (one_at b k))) (λ k h. form_normal _)

idle_normal : normal_one idle ≡ true
unfolding idle normal_one within norm_drop
idle_normal = refl

drawn_normal : normal_one drawn ≡ true
unfolding drawn normal_one within norm_drop
drawn_normal = refl

pub nothing_normal : normal_of nothing_done ≡ true
unfolding normal_of nothing_done
nothing_normal = all_i (λ k. normal_one idle) (λ k h. idle_normal)

if_normal : (x : One) → normal_one x ≡ true → (t : Bool) → normal_one (one_if t x) ≡ true
if_normal x n true = n
if_normal x n false = idle_normal

pub draw_normal : (t : ℕ) → normal_of (draw_of t) ≡ true
unfolding normal_of draw_of
draw_normal t = all_i (λ k. normal_one (one_if (eqb k t) drawn)) (λ k h. if_normal drawn drawn_normal (eqb k t))

pub grant_normal : (t p m : ℕ) → normal_of (grant_of t p m) ≡ true
unfolding normal_of grant_of granted
grant_normal t p m =
    all_i (λ k. normal_one (one_if (eqb k t) (granted p m))) (λ k h. if_normal (granted p m) (form_normal _) (eqb k t))

pub normal_at : (e : Effect) → normal_of e ≡ true → (k : ℕ) → k < 6 → normal_one (one_at e k) ≡ true
unfolding normal_of
normal_at e n = all_e (λ k. normal_one (one_at e k)) n

pub form_kept : (e : Effect) → normal_of e ≡ true → (k : ℕ) → k < 6 → normal_form (one_at e k) ≡ one_at e k
form_kept e n k h = form_same (one_at e k) (normal_at e n k h)

-- what is at a type after an effect, and in the smaller stock
pub applied_at : (e : Effect) (s : Stock) (k : ℕ) → k < 6 → held_at (apply_of e s) k ≡ apply_one (one_at e k) (held_at s k)
unfolding apply_of
applied_at e s = stock_at_lem (λ k. apply_one (one_at e k) (held_at s k))

pub applied_six : (e : Effect) (s : Stock) → SixHeld (apply_of e s)
unfolding apply_of
applied_six e s = refl

pub lower_at : (s t : Stock) (k : ℕ) → k < 6 → held_at (lower_of s t) k ≡ lower_held (held_at s k) (held_at t k)
unfolding lower_of
lower_at s t = stock_at_lem (λ k. lower_held (held_at s k) (held_at t k))

-- the order of stocks and of effects, type by type
abbrev pub EachBelow : Stock → Stock → Type 0
EachBelow s t = (k : ℕ) → k < 6 → HeldBelow (held_at s k) (held_at t k)

abbrev pub EachAtMost : Effect → Effect → Type 0
EachAtMost a b = (s : Stock) → EachBelow (apply_of a s) (apply_of b s)

pub stock_sound : (s t : Stock) → stock_at_most_of s t ≡ true → EachBelow s t
unfolding stock_at_most_of
stock_sound s t q k h = held_sound (held_at s k) (held_at t k) (all_e (λ k. held_at_most (held_at s k) (held_at t k)) q k h)

pub stock_complete : (s t : Stock) → EachBelow s t → stock_at_most_of s t ≡ true
unfolding stock_at_most_of
stock_complete s t q = all_i (λ k. held_at_most (held_at s k) (held_at t k)) (λ k h. held_complete (held_at s k) (held_at t k) (q k h))

-- no count above 255
abbrev pub Counts : Stock → Type 0
Counts s = (k : ℕ) → k < 6 → (held_at s k).count ≤ 255

held_anti : (h g : Held) → h.count ≤ 255 → g.count ≤ 255 → held_at_most h g ≡ true → held_at_most g h ≡ true → h ≡ g
held_anti h g c d p q =
    let a = held_sound h g p in
    let b = held_sound g h q in
    let e : h.count ≡ g.count = omega (arith, a.the_count, b.the_count) in
    λ i. record {
      rights = bit_ext h.rights g.rights (λ k. omega (arith, a.every_right k, b.every_right k)) i;
      count = e i;
    }

pub stock_anti : (s t : Stock) → SixHeld s → SixHeld t → Counts s → Counts t → stock_at_most_of s t ≡ true → stock_at_most_of t s ≡ true → s ≡ t
unfolding stock_at_most_of
stock_anti s t u v c d p q =
    sym u
    ∙ ap stock_of
    (among_ext (held_at s) (held_at t)
    (λ k h. held_anti (held_at s k) (held_at t k) (c k h) (d k h) (all_e (λ k. held_at_most (held_at s k) (held_at t k)) p k h)
    (all_e (λ k. held_at_most (held_at t k) (held_at s k)) q k h)))
    ∙ v

pub apply_mono : (e : Effect) (s t : Stock) → EachBelow s t → EachBelow (apply_of e s) (apply_of e t)
apply_mono e s t q k h =
    below_along (applied_at e s k h) (applied_at e t k h) (one_mono (one_at e k) (held_at s k) (held_at t k) (q k h))

held_comm : (h g : Held) → lower_held h g ≡ lower_held g h
unfolding lower_held
held_comm h g =
    let e : min h.count g.count ≡ min g.count h.count = omega arith in
    λ i. record { rights = and_comm h.rights g.rights i; count = e i }

pub lower_comm : (s t : Stock) → lower_of s t ≡ lower_of t s
unfolding lower_of
lower_comm s t = λ i. stock_of (λ k. held_comm (held_at s k) (held_at t k) i)

pub lower_below : (s t : Stock) → EachBelow (lower_of s t) s
unfolding lower_held
lower_below s t k h =
    below_along (lower_at s t k h) refl
    (record { every_right = λ b. omega (arith, bit_and_lem b (held_at s k).rights (held_at t k).rights); the_count = omega arith })

pub lower_greatest : (u s t : Stock) → EachBelow u s → EachBelow u t → EachBelow u (lower_of s t)
unfolding lower_held
lower_greatest u s t p q k h =
    let a = p k h in
    let b = q k h in
    below_along refl (lower_at s t k h)
    (record {
      every_right = λ j. omega (arith, bit_and_lem j (held_at s k).rights (held_at t k).rights, a.every_right j, b.every_right j);
      the_count = omega (arith, a.the_count, b.the_count);
    })

held_same : (h g : Held) → h.count ≤ 255 → held_at_most h g ≡ true → lower_held h g ≡ h
unfolding lower_held
held_same h g c t =
    let l = held_sound h g t in
    let e : min h.count g.count ≡ h.count = omega (arith, l.the_count) in
    λ i. record {
      rights = bit_ext _ h.rights (λ b. bit_and_lem b h.rights g.rights ∙ min-eq_left (l.every_right b)) i;
      count = e i;
    }

pub lower_same : (s t : Stock) → SixHeld s → Counts s → stock_at_most_of s t ≡ true → lower_of s t ≡ s
unfolding lower_of stock_at_most_of
lower_same s t v c q =
    ap stock_of
    (among_ext (λ k. lower_held (held_at s k) (held_at t k)) (held_at s)
    (λ k h. held_same (held_at s k) (held_at t k) (c k h) (all_e (λ k. held_at_most (held_at s k) (held_at t k)) q k h)))
    ∙ v

-- the test of effects is the meaning
pub one_at_most : (a b : Effect) (k : ℕ) → k < 6 → at_most_one (one_at a k) (one_at b k) ≡ true
    → (s : Stock) → HeldBelow (held_at (apply_of a s) k) (held_at (apply_of b s) k)
one_at_most a b k h t s = below_along (applied_at a s k h) (applied_at b s k h) (one_sound (one_at a k) (one_at b k) t (held_at s k))

pub at_most_sound : (a b : Effect) → at_most_of a b ≡ true → EachAtMost a b
unfolding at_most_of
at_most_sound a b t s k h = one_at_most a b k h (all_e (λ k. at_most_one (one_at a k) (one_at b k)) t k h) s

-- the same of every type tells each type's effect
pub at_most_one_lem : (a b : Effect) (k : ℕ) → k < 6 → ((s : Stock) → HeldBelow (held_at (apply_of a s) k) (held_at (apply_of b s) k))
    → at_most_one (one_at a k) (one_at b k) ≡ true
at_most_one_lem a b k h q =
    one_complete (one_at a k) (one_at b k)
    (λ g. let s = stock_of (λ j. g) in
    let at : (e : Effect) → apply_one (one_at e k) g ≡ held_at (apply_of e s) k =
    λ e. sym (applied_at e s k h ∙ ap (apply_one (one_at e k)) (stock_at_lem (λ j. g) k h)) in
    below_along (at a) (at b) (q s))

pub at_most_complete : (a b : Effect) → EachAtMost a b → at_most_of a b ≡ true
unfolding at_most_of
at_most_complete a b q =
    all_i (λ k. at_most_one (one_at a k) (one_at b k)) (λ k h. at_most_one_lem a b k h (λ s. q s k h))

pub at_most_refl : (a : Effect) → at_most_of a a ≡ true
unfolding at_most_of
at_most_refl a = all_i (λ k. at_most_one (one_at a k) (one_at a k)) (λ k h. one_refl (one_at a k))

pub at_most_trans : (a b c : Effect) → at_most_of a b ≡ true → at_most_of b c ≡ true → at_most_of a c ≡ true
unfolding at_most_of
at_most_trans a b c p q =
    all_i (λ k. at_most_one (one_at a k) (one_at c k))
    (λ k h. one_trans (one_at a k) (one_at b k) (one_at c k) (all_e (λ k. at_most_one (one_at a k) (one_at b k)) p k h)
    (all_e (λ k. at_most_one (one_at b k) (one_at c k)) q k h))

pub at_most_anti : (a b : Effect) → normal_of a ≡ true → normal_of b ≡ true → SixOnes a → SixOnes b → at_most_of a b ≡ true → at_most_of b a ≡ true → a ≡ b
unfolding at_most_of
at_most_anti a b m n u v p q =
    sym u
    ∙ ap effect_of
    (among_ext (one_at a) (one_at b)
    (λ k h. one_anti (one_at a k) (one_at b k) (normal_at a m k h) (normal_at b n k h) (all_e (λ k. at_most_one (one_at a k) (one_at b k)) p k h)
    (all_e (λ k. at_most_one (one_at b k) (one_at a k)) q k h)))
    ∙ v

-- equal functions are equal effects
pub canonical : (a b : Effect) → normal_of a ≡ true → normal_of b ≡ true → SixOnes a → SixOnes b → ((s : Stock) → apply_of a s ≡ apply_of b s) → a ≡ b
canonical a b m n u v e =
    at_most_anti a b m n u v (at_most_complete a b (λ s k h. rw (e s) (below_refl (held_at (apply_of b s) k))))
    (at_most_complete b a (λ s k h. rw (e s) (below_refl (held_at (apply_of b s) k))))

pub then_mono : (a a' b b' : Effect) → at_most_of a a' ≡ true → at_most_of b b' ≡ true → at_most_of (then_of a b) (then_of a' b') ≡ true
then_mono a a' b b' p q =
    at_most_complete (then_of a b) (then_of a' b')
    (λ s k h. let t = apply_of a s in
    let t' = apply_of a' s in
    rw (apply_then a b s, apply_then a' b' s) (below_trans (apply_mono b t t' (at_most_sound a a' p s) k h) (at_most_sound b b' q t' k h)))

pub then_assoc : (a b c : Effect) → then_of (then_of a b) c ≡ then_of a (then_of b c)
unfolding then_of
then_assoc a b c =
    canonical (then_of (then_of a b) c) (then_of a (then_of b c)) (then_normal (then_of a b) c) (then_normal a (then_of b c)) refl refl
    (λ s. simp apply_then)

-- then over both, on either side
pub then_both_l : (a b c : Effect) → then_of (both_of a b) c ≡ both_of (then_of a c) (then_of b c)
unfolding then_of both_of
then_both_l a b c =
    canonical (then_of (both_of a b) c) (both_of (then_of a c) (then_of b c)) (then_normal (both_of a b) c) (both_normal (then_of a c) (then_of b c)) refl refl
    (λ s. simp (apply_then, apply_both, apply_lower))

pub then_both_r : (a b c : Effect) → then_of a (both_of b c) ≡ both_of (then_of a b) (then_of a c)
unfolding then_of both_of
then_both_r a b c =
    canonical (then_of a (both_of b c)) (both_of (then_of a b) (then_of a c)) (then_normal a (both_of b c)) (both_normal (then_of a b) (then_of a c)) refl refl
    (λ s. simp (apply_then, apply_both))

-- both is the greatest that is at most either
pub both_comm : (a b : Effect) → both_of a b ≡ both_of b a
unfolding both_of
both_comm a b =
    canonical (both_of a b) (both_of b a) (both_normal a b) (both_normal b a) refl refl
    (λ s. apply_both a b s ∙ lower_comm (apply_of a s) (apply_of b s) ∙ sym (apply_both b a s))

pub both_left : (a b : Effect) → at_most_of (both_of a b) a ≡ true
both_left a b = at_most_complete (both_of a b) a (λ s. rw (apply_both a b s) (lower_below (apply_of a s) (apply_of b s)))

pub both_right : (a b : Effect) → at_most_of (both_of a b) b ≡ true
both_right a b = rw (both_comm a b) (both_left b a)

pub both_greatest : (c a b : Effect) → at_most_of c a ≡ true → at_most_of c b ≡ true → at_most_of c (both_of a b) ≡ true
both_greatest c a b p q =
    at_most_complete c (both_of a b)
    (λ s. rw (apply_both a b s) (lower_greatest (apply_of c s) (apply_of a s) (apply_of b s) (at_most_sound c a p s) (at_most_sound c b q s)))

-- and the smaller of two, where one is at most the other, is that one
pub both_same : (a b : Effect) → normal_of a ≡ true → SixOnes a → at_most_of a b ≡ true → both_of a b ≡ a
unfolding both_of
both_same a b n v t =
    at_most_anti (both_of a b) a (both_normal a b) n refl v (both_left a b) (both_greatest a a b (at_most_refl a) t)

-- nothing done changes nothing of a stock whose rights are words and whose counts are at most 255
abbrev pub Fits : Held → Type 0
Fits h = (h.rights < 65536) × (h.count ≤ 255)

idle_same : (h : Held) → Fits h → apply_one idle h ≡ h
unfolding apply_one idle
idle_same h f =
    let n : (b : ℕ) → bit b (rights_after 0 65535 h.rights) ≡ bit b h.rights = λ b. elim (dec_lt b 16) [
      | yes l ↦ rights_nothing b h.rights l
      | no l ↦ omega (arith, bit_high 16 b h.rights f.0 (omega arith), bit_high 16 b 65535 (omega arith) (omega arith), bit_after b 0 65535 h.rights)
    ] in
    let e : count_after 255 0 h.count ≡ h.count = omega (arith, f.1, after_nothing h.count) in
    λ i. record { rights = bit_ext (rights_after 0 65535 h.rights) h.rights n i; count = e i }

pub apply_nothing : (s : Stock) → SixHeld s → ((k : ℕ) → k < 6 → Fits (held_at s k)) → apply_of nothing_done s ≡ s
unfolding apply_of nothing_done
apply_nothing s v h =
    ap stock_of (among_ext (λ k. apply_one idle (held_at s k)) (held_at s) (λ k l. idle_same (held_at s k) (h k l))) ∙ v

-- and before or after an effect whose keep-max are words, nothing
abbrev pub Words : Effect → Type 0
Words e = (k : ℕ) → k < 6 → (one_at e k).keepmax < 65536

idle_first : (x : One) → x.keepmax < 65536 → (h : Held) → apply_one x (apply_one idle h) ≡ apply_one x h
unfolding apply_one idle
idle_first x w h =
    let r = rights_after 0 65535 h.rights in
    let n : (b : ℕ) → bit b (rights_after x.keepin x.keepmax r) ≡ bit b (rights_after x.keepin x.keepmax h.rights) =
    λ b. let p = bit_after b x.keepin x.keepmax r in
    let q = bit_after b x.keepin x.keepmax h.rights in
    elim (dec_lt b 16) [
      | yes l ↦ omega (arith, rights_nothing b h.rights l)
      | no l ↦ omega (arith, bit_high 16 b x.keepmax w (omega arith))
    ] in
    let c = count_after 255 0 h.count in
    let k : counted c ≡ counted h.count = omega (arith, after_nothing h.count) in
    let e : count_after x.cap x.drop c ≡ count_after x.cap x.drop h.count =
    omega (arith, after_mono x.cap x.drop c h.count (omega arith), after_mono x.cap x.drop h.count c (omega arith)) in
    λ i. record { rights = bit_ext _ _ n i; count = e i }

pub then_nothing_l : (a : Effect) → normal_of a ≡ true → SixOnes a → Words a → then_of nothing_done a ≡ a
unfolding apply_of nothing_done then_of
then_nothing_l a n v w =
    canonical (then_of nothing_done a) a (then_normal nothing_done a) n refl v
    (λ s. apply_then nothing_done a s
    ∙ ap stock_of
    (among_ext (λ k. apply_one (one_at a k) (apply_one idle (held_at s k))) (λ k. apply_one (one_at a k) (held_at s k))
    (λ k h. idle_first (one_at a k) (w k h) (held_at s k))))

left_fits : (x : One) (h : Held) → x.keepmax < 65536 → Fits (apply_one x h)
unfolding apply_one rights_after
left_fits x h w =
    (omega (arith, and_le_r (bit_or h.rights x.keepin) x.keepmax), after_top x.cap x.drop h.count)

pub then_nothing_r : (a : Effect) → normal_of a ≡ true → SixOnes a → Words a → then_of a nothing_done ≡ a
unfolding then_of
then_nothing_r a n v w =
    canonical (then_of a nothing_done) a (then_normal a nothing_done) n refl v
    (λ s. apply_then a nothing_done s
    ∙ apply_nothing (apply_of a s) (applied_six a s) (λ k h. subst Fits (sym (applied_at a s k h)) (left_fits (one_at a k) (held_at s k) (w k h))))

-- what is made has words for its keep-max where its parts have, and is six effects of one type
pub both_words : (a b : Effect) → Words a → Words (both_of a b)
unfolding both_of both_one normal_form
both_words a b w k h =
    let at = ap (λ (x : One). x.keepmax) (effect_at_lem (λ t. both_one (one_at a t) (one_at b t)) k h) in
    omega (arith, at, and_le_l (one_at a k).keepmax (one_at b k).keepmax, w k h)

pub then_words : (a b : Effect) → Words b → Words (then_of a b)
unfolding then_of then_one normal_form rights_after
then_words a b w k h =
    let at = ap (λ (x : One). x.keepmax) (effect_at_lem (λ t. then_one (one_at a t) (one_at b t)) k h) in
    omega (arith, at, and_le_r (bit_or (one_at a k).keepmax (one_at b k).keepin) (one_at b k).keepmax, w k h)

pub nothing_words : Words nothing_done
unfolding nothing_done idle
nothing_words k h = omega (arith, ap (λ (x : One). x.keepmax) (effect_at_lem (λ t. idle) k h))

pub both_six : (a b : Effect) → SixOnes (both_of a b)
unfolding both_of
both_six a b = refl

pub then_six : (a b : Effect) → SixOnes (then_of a b)
unfolding then_of
then_six a b = refl
