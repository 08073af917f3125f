use Rattle.rule_rounds.proofs.Takes.{two_more, one_more}
use Rattle.rule_rounds.proofs.digit.Goals as goal

pub returns-then-one : goal.returns-then-one
returns-then-one c =
    let a = c.args in
    two_more a.y c.then-square.result c.then.result a.p a.one c.if-one.true c.then-square.ensures.equals c.then.ensures.equals

pub returns : goal.returns
returns c =
    let a = c.args in
    one_more a.y c.then-square.result a.p a.one c.if-one.false c.then-square.ensures.equals
