use mathlib.Core.Path.{ap, sym, ◌∙◌}
use Rattle.rule_rounds.specs.Rounds.{rounds_of}
use Rattle.rule_rounds.proofs.Cases.{never_returns_lem}
use Rattle.rule_rounds.proofs.of_call.Goals as goal

pub returns-then-marked : goal.returns-then-marked
returns-then-marked c =
    let a = c.args in
    c.returning.ensures ∙ ap (λ b. rounds_of a.call b a.x a.repeats) (sym c.if-marked.true)

pub returns : goal.returns
returns c =
    let a = c.args in
    never_returns_lem a.call a.x a.marked a.repeats c.if-marked.false
