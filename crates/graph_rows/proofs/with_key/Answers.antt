use Rattle.graph_rows.specs.Rows.{stretch_of}
use Rattle.graph_rows.proofs.Stretches.{first_next}
use Rattle.graph_rows.proofs.with_key.Goals as goal

pub seek-requires : goal.seek-requires
seek-requires c = rw c.first_row-from.ensures (first_next _ _ _ _)

pub returns : goal.returns
unfolding stretch_of
returns c = λ i. record { from = c.first_row-from.ensures i; to = c.seek.ensures i }
