use mathlib.Core.Path.{◌≡◌}
use Rattle.words.specs.Least.{least_of}
use Rattle.profile_looks.specs.Looks.{convicted}
use Rattle.profile_looks.proofs.lowest.Given as goal

abbrev pub invariant-loop-k : goal.invariant-loop-k
invariant-loop-k l = l.least ≡ least_of l.g.tables.nodes (convicted l.g.file.now l.g.tables l.look) l.k
