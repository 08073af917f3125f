use Prim.Native.Nat.{ℕ}
use mathlib.Core.Path.{◌≡◌}
use borrow.Author.Rules.{rules}
use lib.ListN.{get_or}
use Rattle.std.proofs.lemmas.Iterator.{first_from_Range}
use Rattle.rule_ask.specs.Gives.{turned}
use Rattle.engine_flags.proofs.Flags.{next_found}
use Rattle.engine_flags.proofs.next.Goals as goal

pub returns : goal.returns
returns c =
    let a = c.args in
    let flag : ℕ → ℕ = λ j. get_or a.area.now (turned a.backwards a.n j) 0 in
    next_found a.area.now a.backwards a.n a.k c.past_eights-start.result _ _ c.past_eights-start.ensures
    (first_from_Range _ _ _ _ (λ j. flag j ≡ 0 → ⊥) (λ j. flag j ≡ 0) c.find.ensures.ran (λ x q k. search rules) (λ x q k. search rules))
