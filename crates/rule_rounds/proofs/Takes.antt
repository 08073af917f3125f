-- What is taken by squaring is the plain repetition, at each of the cases that the code tells apart.
use Prim.Native.Nat.{ℕ, zero, suc, ◌+◌, ◌-◌, ◌/◌, ◌%◌, ◌^◌, ◌≤◌, ◌<◌}
use mathlib.Core.Path.{◌≡◌, refl, sym, ap, ◌∙◌}
use mathlib.Core.Bool.{Bool, true, false}
use mathlib.Core.List.{List}
use native.Mathlib.Omega.{arith}
use native.Mathlib.Numerals.{add-one}
use lib.ListN.{length}
use lib.Dec.{eqb}
use lib.Pow.{shr-shr, shr_le}
use Rattle.effect.specs.declared.Effect.{Effect}
use Rattle.effect.specs.Whole.{then_of, both_of, nothing_done}
use Rattle.effect.proofs.Laws.{Words}
use Rattle.model.specs.Stocks.{permits}
use Rattle.model.specs.Rounds.{lowest_rounds}
use Rattle.rule_rounds.specs.declared.Repeated.{Repeated}
use Rattle.rule_rounds.specs.declared.Climb.{Climb}
use Rattle.rule_rounds.specs.Chain.{once_or_not, last_of, digit_on, power_chain, chain_of, before_of, steps_of, most_steps, Taking}
use Rattle.rule_rounds.specs.Climb.{climb_of}
use Rattle.rule_rounds.proofs.Once.{power, once_more, powers_lower}
use Rattle.rule_rounds.proofs.Powers.{chain_none, chain_half, chain_last}
use Rattle.rule_rounds.proofs.Steps.{steps_length, steps_word, steps_few}

abbrev climbed : Effect → ℕ → Climb
climbed power steps = record { power = power; steps = steps }

-- one digit
pub two_more : (y square z : Effect) (p : Climb) (one : Bool) → one ≡ true → square ≡ then_of p.power p.power → z ≡ then_of square y
    → (l : List Effect) → p ≡ climb_of y l → climbed z (p.steps + 2) ≡ climb_of y (digit_on y one l)
unfolding climb_of digit_on last_of
two_more y square z p one h s e l q =
    let n : length l + 2 ≡ suc (suc (length l)) = omega arith in
    rw (h, e, s, q) (λ i. climbed (then_of (then_of (last_of y l) (last_of y l)) y) (n i))

pub one_more : (y square : Effect) (p : Climb) (one : Bool) → one ≡ false → square ≡ then_of p.power p.power
    → (l : List Effect) → p ≡ climb_of y l → climbed square (p.steps + 1) ≡ climb_of y (digit_on y one l)
unfolding climb_of digit_on last_of
one_more y square p one h s l q =
    let n : length l + 1 ≡ suc (length l) = omega arith in
    rw (h, s, q) (λ i. climbed (then_of (last_of y l) (last_of y l)) (n i))

-- a chain has few members
pub chain_few : (y : Effect) (e : ℕ) (p : Climb) → 0 < e → e < 2 ^ 32 → p ≡ climb_of y (power_chain y e) → p.steps ≤ 63
unfolding climb_of
chain_few y e p s f h = omega (arith, ap (λ (q : Climb). q.steps) h, steps_length e s f y, steps_word e s f)

-- all digits of e but the lowest n are read
pub record OnTheWay (y : Effect) (e n : ℕ) (p : Climb) : Type 0 where
  pub some : 1 ≤ e / 2 ^ n
  pub reached : p ≡ climb_of y (power_chain y (e / 2 ^ n))

module _ (y : Effect) (e : ℕ) where
  pub at_top : (top : ℕ) → e / 2 ^ top ≡ 1 → OnTheWay y e top (climbed y 0)
  unfolding climb_of last_of
  at_top top h = record { some = omega arith; reached = sym (ap (climb_of y) (chain_none y (e / 2 ^ top) (omega arith))) }

  digit_on_lem : (n : ℕ) (p q : Climb) → ((l : List Effect) → p ≡ climb_of y l → q ≡ climb_of y (digit_on y (eqb (e / 2 ^ n % 2) 1) l)) → OnTheWay y e (suc n) p → OnTheWay y e n q
  digit_on_lem n p q d w =
      let half : e / 2 ^ suc n ≡ e / 2 ^ n / 2 = ap (λ k. e / 2 ^ k) (sym (add-one n)) ∙ sym (shr-shr e n 1) in
      record {
        some = omega (arith, w.some);
        reached = d (power_chain y (e / 2 ^ n / 2)) (w.reached ∙ ap (λ k. climb_of y (power_chain y k)) half) ∙ sym (ap (climb_of y) (chain_half y (e / 2 ^ n) (omega (arith, w.some))));
      }

  -- the next is read
  pub digit_read : (n : ℕ) (p q : Climb) → 0 < n → ((l : List Effect) → p ≡ climb_of y l → q ≡ climb_of y (digit_on y (eqb (e / 2 ^ (n - 1) % 2) 1) l))
      → OnTheWay y e n p → OnTheWay y e (n - 1) q
  digit_read n p q h d w = let m : n ≡ suc (n - 1) = omega arith in digit_on_lem (n - 1) p q d (rw m at w)

  pub all_read : (n : ℕ) (p : Climb) → n ≡ 0 → OnTheWay y e n p → p ≡ climb_of y (power_chain y e)
  all_read n p h w =
      let all : e / 2 ^ n ≡ e = ap (λ k. e / 2 ^ k) h ∙ omega arith in
      w.reached ∙ ap (λ k. climb_of y (power_chain y k)) all

  pub way_few : (n : ℕ) (p : Climb) → e < 2 ^ 32 → OnTheWay y e n p → p.steps ≤ 63
  way_few n p h w = chain_few y (e / 2 ^ n) p w.some (omega (arith, shr_le e n)) w.reached

abbrev given : Effect → Effect → ℕ → Repeated
given before effect steps = record { before = before; effect = effect; steps = steps }

pub few_taken : (x none : Effect) (r : ℕ) → r < 2 → none ≡ nothing_done → Taking x r (given none x 0)
unfolding before_of chain_of last_of steps_of lowest_rounds
few_taken x none zero h e = record { before = e; effect = refl; last = refl; chain = refl; counted = refl }
few_taken x none (suc zero) h e = record { before = e; effect = refl; last = refl; chain = refl; counted = refl }
few_taken x none (suc (suc r)) h e = absurd (omega arith)

-- e is one less than the repeats, and is not 0
module _ (x : Effect) (n : ℕ) (word : suc n < 2 ^ 32) (w : Words x) where
  abbrev y : Effect
  y = once_or_not x

  abbrev reached : Effect
  reached = last_of y (power_chain y (suc n))

  reached_is : reached ≡ both_of nothing_done (lowest_rounds permits x n)
  reached_is =
      let l : suc n - 1 ≡ n = omega arith in
      chain_last y (suc n) (suc n) (omega arith) (omega arith) ∙ ap (power y) l ∙ powers_lower x n

  by_squares : Taking x (suc (suc n)) (given reached (then_of reached x) (length (power_chain y (suc n)) + 1))
  unfolding before_of chain_of last_of steps_of lowest_rounds
  by_squares =
      let l : suc n ≡ suc (suc n) - 1 = omega arith in
      record {
        before = reached_is;
        effect = ap (λ a. then_of a x) reached_is ∙ once_more x (lowest_rounds permits x n) w ∙ ap (lowest_rounds permits x) l;
        last = refl;
        chain = omega arith;
        counted = omega (arith, steps_length (suc n) (omega arith) word y);
      }

pub more_taken : (x none y effect : Effect) (p : Climb) (r : ℕ) → 2 ≤ r → r < 256 → Words x
    → none ≡ nothing_done → y ≡ both_of none x → p ≡ climb_of y (power_chain y (r - 1)) → effect ≡ then_of p.power x
    → Taking x r (given p.power effect (p.steps + 1))
unfolding climb_of
more_taken x none y effect p zero h f w a b c d = absurd (omega arith)
more_taken x none y effect p (suc zero) h f w a b c d = absurd (omega arith)
more_taken x none y effect p (suc (suc n)) h f w a b c d =
    let l : suc (suc n) - 1 ≡ suc n = omega arith in
    rw (d, c, b, a, l) (by_squares x n (omega arith) w)

pub with_few : {x : Effect} {r : ℕ} {t : Repeated} → r < 256 → Taking x r t → Taking x r t × (t.steps ≤ most_steps)
with_few {x} {r} {t} h p = (p, omega (arith, p.counted, steps_few r h))
