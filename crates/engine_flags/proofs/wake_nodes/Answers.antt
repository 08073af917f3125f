use mathlib.Core.Path.{sym}
use native.Mathlib.Omega.{arith}
use borrow.Author.Rules.{rules}
use Rattle.std.proofs.lemmas.List.{length-take-le}
use Rattle.engine_flags.proofs.Flags.{first_wait}
use Rattle.engine_flags.proofs.wake_nodes.Goals as goal

pub slice_bounds-fill-end-2 : goal.slice_bounds-fill-end-2
slice_bounds-fill-end-2 c = sym (length-take-le _ c.args.area.now (omega (arith, c.requires)))

pub returns : goal.returns
returns c = (search rules, first_wait c.args.area.now _ _ (c.fill.ensures.after (λ y e. search rules)) (omega (arith, c.requires)))
