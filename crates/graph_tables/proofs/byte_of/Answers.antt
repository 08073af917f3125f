use borrow.Author.Rules.{rules}
use Rattle.graph_tables.proofs.byte_of.Goals as goal

pub returns : goal.returns
returns c = (rw (← c.row_at.ensures.0) c.byte.ensures.0, search rules)
