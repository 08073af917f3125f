use borrow.Author.Rules.{rules}
use Rattle.rule_rounds.proofs.Cases.{one_round, more_rounds}
use Rattle.rule_rounds.proofs.returning.Goals as goal

pub returns-then-repeats-le1 : goal.returns-then-repeats-le1
returns-then-repeats-le1 c =
    let a = c.args in
    one_round a.call a.x c.then.result a.repeats (search rules) c.then.ensures.equals

pub returns : goal.returns
returns c =
    let a = c.args in
    more_rounds a.call a.x c.times.result c.then-last.result c.both.result c.then-2.result a.repeats (search rules)
    c.times.ensures.equals c.then-last.ensures.equals c.both.ensures.equals c.then-2.ensures.equals
