use mathlib.Core.Path.{◌≡◌, sym, ap, ◌∙◌}
use Rattle.effect_one.specs.Formulas.{at_most_one}
use Rattle.effect.specs.Six.{one_at}
use Rattle.sheet.specs.Read.{effect_at}
use Rattle.sheet.proofs.Types.{one_read, idle_read}
use Rattle.sheet_compare.proofs.type_under.Goals.{then-k-t, else-k-t}
use Rattle.sheet_compare.proofs.type_under.Goals as goal

pub returns : goal.returns
returns c =
    let a = c.args in
    let x : c.if-k-t.x ≡ one_at (effect_at a.s.now a.t a.v) a.k
    = elim c.if-k-t.branch [
      | then-k-t w ↦ w.x-is ∙ w.inner_one-x.ensures ∙ sym (one_read a.s.now a.t a.v a.k w.if-k-t.true c.requires.0)
      | else-k-t w ↦ w.x-is ∙ w.nothing_done-x.ensures ∙ sym (idle_read a.s.now a.t a.v a.k w.if-k-t.false c.requires.0)
    ] in
    c.at_most.ensures ∙ ap (λ z. at_most_one z a.y) x
