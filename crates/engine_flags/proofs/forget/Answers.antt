use native.Mathlib.Omega.{arith}
use borrow.Author.Rules.{rules}
use Rattle.std.proofs.lemmas.List.{places}
use Rattle.engine_flags.proofs.Flags.{below_filled, inside_filled}
use Rattle.engine_flags.proofs.forget.Goals as goal

pub returns : goal.returns
returns c =
    let a = c.args.area.now in
    let filled = c.fill.ensures.after (λ y e. search rules) in
    record { long = search (rules, places); nodes = below_filled a _ 512 128 0 (omega (arith, c.requires)) filled; methods = inside_filled a _ 512 128 0 (omega (arith, c.requires)) filled }
