-- The rounds of a call at each of the three cases that the code tells apart.
use Prim.Native.Nat.{ℕ, zero, suc, ◌-◌, ◌≤◌, ◌<◌}
use mathlib.Core.Path.{◌≡◌, sym, ap, ◌∙◌}
use mathlib.Core.Bool.{Bool, true, false}
use native.Mathlib.Omega.{arith}
use Rattle.effect.specs.declared.Effect.{Effect}
use Rattle.effect.specs.Whole.{times_of}
use Rattle.model.specs.Stocks.{permits}
use Rattle.model.specs.Rounds.{lowest_rounds, whole_rounds, earlier_rounds}
use Rattle.rule_rounds.specs.declared.Rounds.{Rounds}
use Rattle.rule_rounds.specs.Rounds.{whole_of, rounds_of}
use Rattle.rule_rounds.proofs.Last.{call_next, call_times}

abbrev pub made : Effect → Effect → Rounds
made earlier whole = record { earlier = earlier; whole = whole }

pub never_returns_lem : (call x : Effect) (marked : Bool) (r : ℕ) → marked ≡ false → made call call ≡ rounds_of call marked x r
unfolding rounds_of whole_of earlier_rounds
never_returns_lem call x marked zero e = rw e
never_returns_lem call x marked (suc zero) e = rw e
never_returns_lem call x marked (suc (suc r)) e = rw e

pub one_round : (call x whole : Effect) (r : ℕ) → r < 2 → whole ≡ permits.then call x → made call whole ≡ rounds_of call true x r
unfolding rounds_of whole_of earlier_rounds whole_rounds lowest_rounds
one_round call x whole zero h w = rw w
one_round call x whole (suc zero) h w = rw w
one_round call x whole (suc (suc r)) h w = absurd (omega arith)

-- `rounds` are all rounds but the last, and `last` is what the call and those leave
pub more_rounds : (call x rounds last earlier whole : Effect) (r : ℕ) → 2 ≤ r → rounds ≡ times_of x (r - 1)
    → last ≡ permits.then call rounds → earlier ≡ permits.both call last → whole ≡ permits.then last x
    → made earlier whole ≡ rounds_of call true x r
unfolding rounds_of whole_of earlier_rounds whole_rounds
more_rounds call x rounds last earlier whole zero h t l e w = absurd (omega arith)
more_rounds call x rounds last earlier whole (suc zero) h t l e w = absurd (omega arith)
more_rounds call x rounds last earlier whole (suc (suc r)) h t l e w =
    let one : suc (suc r) - 1 ≡ suc r = omega arith in
    let m = l ∙ ap (permits.then call) (t ∙ ap (times_of x) one) ∙ call_times x call r in
    let first = e ∙ ap (permits.both call) m in
    let all = w ∙ ap (λ a. permits.then a x) m ∙ call_next x call r ∙ ap (λ n. permits.then call (lowest_rounds permits x n)) (sym one) in
    λ i. made (first i) (all i)
