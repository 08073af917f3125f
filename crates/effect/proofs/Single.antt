-- The laws of one type, rights and count together.
use Prim.Native.Nat.{ℕ, ◌≤◌}
use mathlib.Core.Path.{◌≡◌, sym, subst, ◌∙◌}
use mathlib.Core.Bool.{true}
use native.Mathlib.Omega.{arith}
use native.Mathlib.Nat.{min-eq_left}
use lib.Bits.{bit_and}
use lib.Dec.{leb}
use borrow.Author.Tests.{le-leb, leb-true, eq-eqb, eqb-true}
use Rattle.effect_one.specs.declared.Held.{Held}
use Rattle.effect_one.specs.declared.One.{One}
use Rattle.effect_number.specs.Number.{counted, less, rights_after}
use Rattle.effect_number.specs.Formulas.{norm_drop, within}
use Rattle.effect_one.specs.Single.{apply_one}
use Rattle.effect_one.specs.Formulas.{normal_form, normal_one, then_one, both_one, at_most_one, held_at_most, lower_held, granted, drawn}
use Rattle.effect.specs.Coordinate.{bit, RightsWithin}
use Rattle.effect.specs.Meaning.{NormalAt}
use Rattle.effect_number.proofs.Cases.{norm_zero}
use Rattle.effect.proofs.Bools.{and_l, and_r, and_i}
use Rattle.effect.proofs.Count.{less_top, after_norm, after_then, after_both, after_mono, after_min, after_top}
use Rattle.effect.proofs.Order.{after_none, after_some, Under, under_true, true_under, under_sound, under_complete, under_anti, norm_kept, norm_le, kept_254, form_kept}
use Rattle.effect.proofs.Bit.{bit_and_lem, bit_ext, within_bit, bit_within}
use Rattle.effect.proofs.Rights.{bit_after, rights_norm, rights_then, rights_both, rights_and, rights_mono, rights_sound, keepin_complete, keepmax_complete}

-- of one type: no right and no count that the other has not
pub record HeldBelow (h g : Held) : Type 0 where
  pub every_right : RightsWithin h.rights g.rights
  pub the_count : counted h.count ≤ counted g.count

pub below_refl : (h : Held) → HeldBelow h h
below_refl h = record { every_right = λ b. omega arith; the_count = omega arith }

pub below_trans : {h g k : Held} → HeldBelow h g → HeldBelow g k → HeldBelow h k
below_trans p q =
    record { every_right = λ b. omega (arith, p.every_right b, q.every_right b); the_count = omega (arith, p.the_count, q.the_count) }

pub below_along : {h h' g g' : Held} → h ≡ h' → g ≡ g' → HeldBelow h' g' → HeldBelow h g
below_along p q l = rw (p, q) l

-- what an effect leaves is left by its normal form, which is normal
pub one_form : (x : One) (h : Held) → apply_one (normal_form x) h ≡ apply_one x h
unfolding apply_one normal_form
one_form x h =
    λ i. record {
      rights = rights_norm x.keepin x.keepmax h.rights i;
      count = after_norm x.cap x.drop h.count i;
    }

pub form_normal : (x : One) → normal_one (normal_form x) ≡ true
unfolding normal_one normal_form
form_normal x =
    and_i (bit_within _ _ (λ b. omega (arith, bit_and_lem b x.keepin x.keepmax)))
    (and_i (le-leb (counted x.cap) 255 (omega arith)) (eq-eqb _ _ (norm_kept x.cap x.drop)))

pub kept : (x : One) → NormalAt x → norm_drop x.cap x.drop ≡ x.drop
kept x n = form_kept x.cap x.drop n.drop_runs n.zero_none n.not_254

pub normal_true : (x : One) → normal_one x ≡ true → NormalAt x
unfolding normal_one
normal_true x n =
    let w = within x.keepin x.keepmax in
    let l = leb x.cap 255 in
    let k = eqb-true (norm_drop x.cap x.drop) x.drop (and_r l _ (and_r w _ n)) in
    record {
      within_max = within_bit _ _ (and_l w _ n);
      cap_runs = leb-true _ _ (and_l l _ (and_r w _ n));
      drop_runs = omega (arith, norm_le x.cap x.drop);
      zero_none = λ z. sym k ∙ norm_zero x.cap x.drop z;
      not_254 = kept_254 x.cap x.drop k;
    }

pub true_normal : (x : One) → NormalAt x → normal_one x ≡ true
unfolding normal_one
true_normal x n = and_i (bit_within _ _ n.within_max) (and_i (le-leb x.cap 255 n.cap_runs) (eq-eqb _ _ (kept x n)))

pub form_same : (x : One) → normal_one x ≡ true → normal_form x ≡ x
unfolding normal_form
form_same x n =
    let m = normal_true x n in
    let e : counted x.cap ≡ x.cap = omega (arith, m.cap_runs) in
    λ i. record {
      keepin = bit_ext (bit_and x.keepin x.keepmax) x.keepin (λ b. bit_and_lem b x.keepin x.keepmax ∙ min-eq_left (m.within_max b)) i;
      keepmax = x.keepmax;
      cap = e i;
      drop = kept x m i;
    }

-- then is one after the other, both is the smaller, and what is left follows what was there
pub one_then : (x y : One) (h : Held) → apply_one (then_one x y) h ≡ apply_one y (apply_one x h)
unfolding apply_one then_one
one_then x y h =
    one_form _ h
    ∙ (λ i. record {
      rights = rights_then x.keepin x.keepmax y.keepin y.keepmax h.rights i;
      count = after_then x.cap x.drop y.cap y.drop h.count i;
    })

pub one_both : (x y : One) (h : Held) → apply_one (both_one x y) h ≡ lower_held (apply_one x h) (apply_one y h)
unfolding apply_one both_one lower_held
one_both x y h =
    one_form _ h
    ∙ (λ i. record {
      rights = rights_both x.keepin x.keepmax y.keepin y.keepmax h.rights i;
      count = after_both x.cap x.drop y.cap y.drop h.count i;
    })

pub one_lower : (x : One) (h g : Held) → apply_one x (lower_held h g) ≡ lower_held (apply_one x h) (apply_one x g)
unfolding apply_one lower_held
one_lower x h g =
    λ i. record {
      rights = rights_and x.keepin x.keepmax h.rights g.rights i;
      count = after_min x.cap x.drop h.count g.count i;
    }

pub one_mono : (x : One) (h g : Held) → HeldBelow h g → HeldBelow (apply_one x h) (apply_one x g)
unfolding apply_one
one_mono x h g l =
    record {
      every_right = λ b. rights_mono b x.keepin x.keepmax h.rights g.rights (l.every_right b);
      the_count = omega (arith, after_mono x.cap x.drop h.count g.count l.the_count);
    }

-- a grant replaces rights and count, and a draw takes 1
pub one_granted : (p m : ℕ) (h : Held) → apply_one (granted p m) h ≡ record { rights = p; count = counted m }
unfolding granted apply_one
one_granted p m h =
    one_form _ h
    ∙ (λ i. record {
      rights = bit_ext (rights_after p p h.rights) p (λ b. omega (arith, bit_after b p p h.rights)) i;
      count = after_none m 256 h.count (omega arith) i;
    })

pub one_drawn : (h : Held) → (apply_one drawn h).count ≡ less h.count 1
unfolding drawn apply_one
one_drawn h = omega (arith, after_some 255 1 h.count (omega arith), less_top h.count 1)

-- the test of stocks as facts
pub held_sound : (h g : Held) → held_at_most h g ≡ true → HeldBelow h g
unfolding held_at_most
held_sound h g t =
    let w = within h.rights g.rights in
    record {
      every_right = within_bit _ _ (and_l w _ t);
      the_count = omega (arith, leb-true (counted h.count) g.count (and_r w _ t));
    }

pub held_complete : (h g : Held) → HeldBelow h g → held_at_most h g ≡ true
unfolding held_at_most
held_complete h g l = and_i (bit_within _ _ l.every_right) (le-leb (counted h.count) g.count (omega (arith, l.the_count)))

-- the test of effects as facts of the first's normal form
pub record Fields (x y : One) : Type 0 where
  pub keepins : (b : ℕ) → bit b x.keepin ≤ bit b y.keepin
  pub keepmaxs : (b : ℕ) → bit b x.keepmax ≤ bit b y.keepmax
  pub pairs : Under x.cap x.drop y.cap y.drop

form_fields : (x y : One) → at_most_one x y ≡ true → Fields (normal_form x) y
unfolding at_most_one
form_fields x y t =
    let z = normal_form x in
    let i = within z.keepin y.keepin in
    let m = within z.keepmax y.keepmax in
    record {
      keepins = within_bit _ _ (and_l i _ t);
      keepmaxs = within_bit _ _ (and_l m _ (and_r i _ t));
      pairs = under_true _ _ _ _ (and_r m _ (and_r i _ t));
    }

fields_form : (x y : One) → Fields (normal_form x) y → at_most_one x y ≡ true
unfolding at_most_one
fields_form x y f =
    let c = (normal_true (normal_form x) (form_normal x)).cap_runs in
    and_i (bit_within _ _ f.keepins) (and_i (bit_within _ _ f.keepmaxs) (true_under _ _ _ _ c f.pairs))

pub normal_fields : (x y : One) → normal_one x ≡ true → at_most_one x y ≡ true → Fields x y
normal_fields x y n t = subst (λ (z : One). Fields z y) (form_same x n) (form_fields x y t)

-- the test is the meaning
fields_sound : (x y : One) → Fields x y → (h : Held) → HeldBelow (apply_one x h) (apply_one y h)
unfolding apply_one
fields_sound x y f h =
    record {
      every_right = λ b. rights_sound b x.keepin x.keepmax y.keepin y.keepmax h.rights (f.keepins b) (f.keepmaxs b);
      the_count = omega (arith, under_sound x.cap x.drop y.cap y.drop h.count f.pairs);
    }

pub one_sound : (x y : One) → at_most_one x y ≡ true → (h : Held) → HeldBelow (apply_one x h) (apply_one y h)
one_sound x y t h = rw (one_form x h) at (fields_sound (normal_form x) y (form_fields x y t) h)

fields_complete : (x y : One) → NormalAt x → ((h : Held) → HeldBelow (apply_one x h) (apply_one y h)) → Fields x y
unfolding apply_one
fields_complete x y m q =
    let held : ℕ → Held = λ r. record { rights = r; count = r } in
    record {
      keepins = λ b. keepin_complete b x.keepin x.keepmax y.keepin y.keepmax (m.within_max b) ((q (held 0)).every_right b);
      keepmaxs = λ b. keepmax_complete b x.keepin x.keepmax y.keepin y.keepmax ((q (held x.keepmax)).every_right b);
      pairs = under_complete x.cap x.drop y.cap y.drop (kept x m)
          (λ r. omega (arith, (q (held r)).the_count, after_top x.cap x.drop r, after_top y.cap y.drop r));
    }

pub one_complete : (x y : One) → ((h : Held) → HeldBelow (apply_one x h) (apply_one y h)) → at_most_one x y ≡ true
one_complete x y q =
    fields_form x y
    (fields_complete (normal_form x) y (normal_true (normal_form x) (form_normal x)) (λ h. rw (one_form x h) (q h)))

pub fields_true : (x y : One) → Fields x y → at_most_one x y ≡ true
fields_true x y f = one_complete x y (fields_sound x y f)

pub one_refl : (x : One) → at_most_one x x ≡ true
one_refl x = one_complete x x (λ h. below_refl (apply_one x h))

pub one_trans : (x y z : One) → at_most_one x y ≡ true → at_most_one y z ≡ true → at_most_one x z ≡ true
one_trans x y z p q = one_complete x z (λ h. below_trans (one_sound x y p h) (one_sound y z q h))

-- normal forms are told apart
pub one_anti : (x y : One) → normal_one x ≡ true → normal_one y ≡ true → at_most_one x y ≡ true → at_most_one y x ≡ true → x ≡ y
one_anti x y m n p q =
    let a = normal_true x m in
    let b = normal_true y n in
    let f = normal_fields x y m p in
    let g = normal_fields y x n q in
    let e = under_anti x.cap x.drop y.cap y.drop a.cap_runs b.cap_runs (kept x a) (kept y b) f.pairs g.pairs in
    λ i. record {
      keepin = bit_ext x.keepin y.keepin (λ k. omega (arith, f.keepins k, g.keepins k)) i;
      keepmax = bit_ext x.keepmax y.keepmax (λ k. omega (arith, f.keepmaxs k, g.keepmaxs k)) i;
      cap = e.0 i;
      drop = e.1 i;
    }
