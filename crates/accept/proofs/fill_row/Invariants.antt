use lib.ListN.{length}
use Rattle.accept_row.specs.Counts.{Counts}
use Rattle.accept.specs.Many.{Told}
use Rattle.accept.proofs.fill_row.Given as goal

abbrev pub invariant-loop-i : goal.invariant-loop-i
invariant-loop-i l = Told l.p.graph.file.now l.sheets l.initial.row l.row l.i × Counts l.size (length l.sheets) (length l.initial.row) l.count
