use Rattle.sheet.specs.Read.{marked}
use Rattle.sheet.proofs.is_marked.Goals as goal

pub returns : goal.returns
unfolding marked
returns c = rw c.mark.ensures
