use Rattle.rule_rounds.proofs.Takes.{OnTheWay}
use Rattle.rule_rounds.proofs.power.Given as goal

abbrev pub invariant-loop-place : goal.invariant-loop-place
invariant-loop-place l = OnTheWay l.y l.e l.place l.p
