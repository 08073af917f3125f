use Rattle.graph_tables.proofs.word_of.Goals as goal

pub returns : goal.returns
returns c = rw (← c.row_at.ensures.0) c.word.ensures.0
