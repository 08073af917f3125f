use Rattle.graph_rows.proofs.own_of.Goals as goal

pub returns : goal.returns
returns c = rw c.catch_key.ensures at c.with_key.ensures
