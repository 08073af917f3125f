use mathlib.Core.Path.{refl}
use Rattle.work.proofs.Sweeping.{passed_own, judged_refused}
use Rattle.work_queued.specs.Meaning.{refused}
use Rattle.work_queued.proofs.of_judged.Goals as goal

pub invariant_of-of_passed : goal.invariant_of-of_passed
invariant_of-of_passed c =
    let own = passed_own c.args.f.now c.args.j c.requires c.in-Pass.is in record { passes = own.0; tables_are = own.1; shape_is = own.2 }

pub returns-in_default : goal.returns-in_default
returns-in_default c =
    let no = judged_refused c.args.f.now c.args.j c.requires c.in_default.not-Pass in
    refused no.0 refl refl no.1
