-- Effects and stocks of t types: rights are words, counts are at most 255, and nothing is done to a further type and nothing held of it.
-- The operations keep them so.
use Prim.Native.Nat.{ℕ, ◌≤◌, ◌<◌}
use mathlib.Core.Path.{◌≡◌, refl, sym, subst, ◌∙◌}
use mathlib.Core.Bool.{Bool, true, false}
use lib.Bits.{bit_and, bit_or, and_le_l, and_le_r}
use lib.Dec.{leb, eqb}
use borrow.Author.Tests.{leb-true, eqb-true, ne_eqb}
use native.Mathlib.Omega.{arith}
use Rattle.effect_one.specs.declared.Held.{Held}
use Rattle.effect_one.specs.declared.One.{One}
use Rattle.effect_number.specs.Number.{less, left, count_after, rights_after}
use Rattle.effect_number.specs.Formulas.{norm_drop, then_cap, sum_drop, rank, larger_drop, within}
use Rattle.effect_one.specs.Single.{idle, apply_one}
use Rattle.effect_one.specs.Formulas.{normal_form, normal_one, drawn, granted, then_one, both_one, lower_held}
use Rattle.effect.specs.declared.Stock.{Stock}
use Rattle.effect.specs.declared.Effect.{Effect}
use Rattle.effect.specs.Six.{held_at, stock_of, none_held, one_at, effect_of}
use Rattle.effect.specs.Whole.{nothing_done, one_if, draw_of, grant_of, apply_of, then_of, both_of, lower_of}
use Rattle.effect.proofs.Bools.{and_l, and_r}
use Rattle.effect.proofs.Order.{norm_le}
use Rattle.effect.proofs.Six.{SixOnes, SixHeld, stock_at_lem, effect_at_lem}
use Rattle.effect.proofs.Laws.{Fits}

pub record EffectOf (t : ℕ) (e : Effect) : Type 0 where
  pub six : SixOnes e
  pub words : (k : ℕ) → k < 6 → (one_at e k).keepmax < 65536
  pub rest : (k : ℕ) → t ≤ k → k < 6 → one_at e k ≡ idle

pub record StockOf (t : ℕ) (h : Stock) : Type 0 where
  pub six : SixHeld h
  pub fit : (k : ℕ) → k < 6 → Fits (held_at h k)
  pub rest : (k : ℕ) → t ≤ k → k < 6 → held_at h k ≡ none_held

-- what a normal effect does to a type is small, where its rights are; and so is nothing done
pub normal_small : (x : One) → normal_one x ≡ true → x.keepmax < 65536 → (x.keepin < 65536) × (x.cap < 65536) × (x.drop < 65536)
unfolding normal_one within
normal_small x h m =
    let i = eqb-true (bit_and x.keepin x.keepmax) x.keepin (and_l _ _ h) in
    let r = and_r (eqb (bit_and x.keepin x.keepmax) x.keepin) _ h in
    let c = leb-true x.cap 255 (and_l _ _ r) in
    let d = eqb-true (norm_drop x.cap x.drop) x.drop (and_r (leb x.cap 255) _ r) in
    (omega (arith, and_le_r x.keepin x.keepmax), omega arith, omega (arith, norm_le x.cap x.drop))

pub idle_small : (idle.keepin < 65536) × (idle.keepmax < 65536) × (idle.cap < 65536) × (idle.drop < 65536)
unfolding idle
idle_small = (omega arith, omega arith, omega arith, omega arith)

-- given type by type
effect_of_fits : (t : ℕ) (g : ℕ → One) → ((k : ℕ) → k < 6 → (g k).keepmax < 65536) → ((k : ℕ) → t ≤ k → k < 6 → g k ≡ idle) → EffectOf t (effect_of g)
effect_of_fits t g m r =
    record {
      six = refl;
      words = λ k l. subst (λ (o : One). o.keepmax < 65536) (sym (effect_at_lem g k l)) (m k l);
      rest = λ k u l. effect_at_lem g k l ∙ r k u l;
    }

pub stock_of_fits : (t : ℕ) (g : ℕ → Held) → ((k : ℕ) → k < 6 → Fits (g k)) → ((k : ℕ) → t ≤ k → k < 6 → g k ≡ none_held) → StockOf t (stock_of g)
stock_of_fits t g m r = record { six = refl; fit = λ k l. subst Fits (sym (stock_at_lem g k l)) (m k l); rest = λ k u l. stock_at_lem g k l ∙ r k u l }

pub nothing_of : (t : ℕ) → EffectOf t nothing_done
unfolding nothing_done idle
nothing_of t = effect_of_fits t (λ k. idle) (λ k l. omega arith) (λ k u l. refl)

-- where nothing is done and nothing held, it stays so
pub then_idle : then_one idle idle ≡ idle
unfolding then_one normal_form idle rights_after then_cap sum_drop norm_drop less
then_idle = refl

both_idle : both_one idle idle ≡ idle
unfolding both_one normal_form idle larger_drop rank norm_drop
both_idle = refl

apply_idle : apply_one idle none_held ≡ none_held
unfolding apply_one idle rights_after count_after left less
apply_idle = refl

lower_none : lower_held none_held none_held ≡ none_held
unfolding lower_held
lower_none = refl

module _ (t : ℕ) (a b : Effect) (p : EffectOf t a) (q : EffectOf t b) where
  pub then_of_fits : EffectOf t (then_of a b)
  unfolding then_of then_one normal_form rights_after
  then_of_fits =
      effect_of_fits t (λ k. then_one (one_at a k) (one_at b k))
      (λ k l. omega (arith, and_le_r (bit_or (one_at a k).keepmax (one_at b k).keepin) (one_at b k).keepmax, q.words k l))
      (λ k u l. (λ i. then_one (p.rest k u l i) (q.rest k u l i)) ∙ then_idle)

  pub both_of_fits : EffectOf t (both_of a b)
  unfolding both_of both_one normal_form
  both_of_fits =
      effect_of_fits t (λ k. both_one (one_at a k) (one_at b k))
      (λ k l. omega (arith, and_le_r (one_at a k).keepmax (one_at b k).keepmax, q.words k l))
      (λ k u l. (λ i. both_one (p.rest k u l i) (q.rest k u l i)) ∙ both_idle)

pub apply_of_fits : (t : ℕ) (e : Effect) (h : Stock) → EffectOf t e → StockOf t h → StockOf t (apply_of e h)
unfolding apply_of apply_one rights_after count_after
apply_of_fits t e h p q =
    stock_of_fits t (λ k. apply_one (one_at e k) (held_at h k))
    (λ k l. (omega (arith, and_le_r (bit_or (held_at h k).rights (one_at e k).keepin) (one_at e k).keepmax, p.words k l), omega arith))
    (λ k u l. (λ i. apply_one (p.rest k u l i) (q.rest k u l i)) ∙ apply_idle)

pub lower_of_fits : (t : ℕ) (h g : Stock) → StockOf t h → StockOf t g → StockOf t (lower_of h g)
unfolding lower_of lower_held
lower_of_fits t h g p q =
    stock_of_fits t (λ k. lower_held (held_at h k) (held_at g k))
    (λ k l. (omega (arith, and_le_l (held_at h k).rights (held_at g k).rights, (p.fit k l).0), omega (arith, (p.fit k l).1)))
    (λ k u l. (λ i. lower_held (p.rest k u l i) (q.rest k u l i)) ∙ lower_none)

-- a draw or a grant of one of the t types
module _ (t j : ℕ) (h : j < t) where
  one_of : (x : One) → x.keepmax < 65536 → EffectOf t (effect_of (λ k. one_if (eqb k j) x))
  unfolding idle
  one_of x m = effect_of_fits t (λ k. one_if (eqb k j) x) (λ k l. keeps (eqb k j)) (λ k u l. simp (ne_eqb k j (λ e. omega arith)))
    where
      keeps : (b : Bool) → (one_if b x).keepmax < 65536
      keeps true = m
      keeps false = omega arith

  pub draw_of_fits : EffectOf t (draw_of j)
  unfolding draw_of drawn
  draw_of_fits = one_of drawn (omega arith)

  pub grant_of_fits : (p m : ℕ) → p < 65536 → EffectOf t (grant_of j p m)
  unfolding grant_of granted normal_form
  grant_of_fits p m l = one_of (granted p m) l
