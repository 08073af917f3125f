use Prim.Native.Nat.{◌-◌, ◌<◌, ◌^◌}
use native.Mathlib.Omega.{arith}
use borrow.Author.Rules.{rules}
use lib.Count.{ones-le}
use Rattle.rule_rounds.proofs.Steps.{top_word, no_steps, some_steps}
use Rattle.rule_rounds.proofs.steps_of.Goals as goal

pub returns-then-repeats-lt2 : goal.returns-then-repeats-lt2
returns-then-repeats-lt2 c = no_steps c.args.repeats (search rules)

pub overflow_sub-result : goal.overflow_sub-result
overflow_sub-result c = top_word (c.args.repeats - 1) (omega arith) (omega arith)

pub overflow_add-result : goal.overflow_add-result
overflow_add-result c =
    let e = c.args.repeats - 1 in
    let h : e < 2 ^ 32 = omega arith in
    omega (arith, ones-le 32 e h)

pub returns : goal.returns
returns c = some_steps c.args.repeats (search rules)
