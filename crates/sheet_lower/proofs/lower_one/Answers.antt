use Prim.Native.Nat.{◌+◌, ◌*◌}
use mathlib.Core.Path.{sym, ap, ◌∙◌}
use mathlib.Core.Bool.{cond}
use Rattle.words.specs.Write.{splice}
use Rattle.effect_one.specs.Formulas.{both_one}
use Rattle.sheet.specs.Inner.{one_words}
use Rattle.sheet_lower.specs.Lowered.{one_bytes}
use Rattle.sheet_lower.proofs.lower_one.Goals as goal

pub returns-then-old : goal.returns-then-old
returns-then-old c =
    let a = c.args in
    c.put_one.ensures
    ∙ ap (λ z. splice a.s.now (2 * (a.w + (1 + 4 * a.k))) (one_bytes z)) (c.both.ensures ∙ ap (λ z. both_one z a.x) c.inner_one-y.ensures)
    ∙ ap (λ b. splice a.s.now (2 * (a.w + (1 + 4 * a.k))) (one_bytes (cond b (both_one (one_words a.s.now a.w a.k) a.x) a.x))) (sym c.if-old.true)

pub returns : goal.returns
returns c =
    let a = c.args in
    c.put_one-2.ensures
    ∙ ap (λ b. splice a.s.now (2 * (a.w + (1 + 4 * a.k))) (one_bytes (cond b (both_one (one_words a.s.now a.w a.k) a.x) a.x))) (sym c.if-old.false)
