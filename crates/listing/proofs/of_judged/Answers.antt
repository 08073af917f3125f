use native.Mathlib.Omega.{arith}
use borrow.Author.Rules.{rules}
use Rattle.work_queued.proofs.Only.{as_plain}
use Rattle.listing.specs.Lists.{told}
use Rattle.listing.proofs.Longest.{longest}
use Rattle.listing.proofs.of_judged.Goals as goal

pub tell-n-requires : goal.tell-n-requires
tell-n-requires c =
    let a = c.args in (
      c.requires.0,
      c.requires.1,
      omega (arith, longest a.f.now a.s.now _ (as_plain (search rules) c.of_judged-a.ensures), c.requires.2),
    )

pub returns : goal.returns
returns c = told c.requires.2 (as_plain (search rules) c.of_judged-a.ensures) c.tell-n.ensures.0 c.tell-n.ensures.1
