use Rattle.engine_flags.specs.Flags.{Woken, PassedOn}
use Rattle.engine_flags.proofs.pass_all_on.Given as goal

abbrev pub invariant-loop-k : goal.invariant-loop-k
invariant-loop-k l = Woken l.initial.area l.area × PassedOn l.g.file.now l.g.tables l.initial.area l.area l.k
