use mathlib.Core.Path.{refl}
use borrow.Author.Rules.{rules}
use Rattle.answer.specs.declared.Answer.TheVariants.{OutputShort}
use Rattle.answer.proofs.Settled.{says}
use Rattle.listing.specs.Lists.{too_short}
use Rattle.listing.proofs.list.Goals as goal

pub returns-then-out-lt-ROOM : goal.returns-then-out-lt-ROOM
returns-then-out-lt-ROOM c = too_short (search rules) refl refl (says OutputShort) refl

pub of_judged-requires : goal.of_judged-requires
of_judged-requires c = (c.judged-j.ensures.equals, c.judged-j.ensures.within, search rules)

pub returns : goal.returns
returns c = c.of_judged.ensures
