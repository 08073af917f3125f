use mathlib.Core.Path.{sym, ◌∙◌}
use borrow.Author.Tests.{eq-eqb, ne_eqb}
use Rattle.sheet_formed.proofs.inner_ill.Goals as goal

pub returns-then-mark-eq0 : goal.returns-then-mark-eq0
returns-then-mark-eq0 c =
    let m = c.inner_word-mark.ensures.0 in
    simp (eq-eqb _ _ (sym m ∙ c.if-mark-eq0.true), c.inner_some.ensures)

pub returns-then-mark-eq1 : goal.returns-then-mark-eq1
returns-then-mark-eq1 c =
    let m = c.inner_word-mark.ensures.0 in
    simp (ne_eqb _ _ (λ e. c.if-mark-eq0.false (m ∙ e)), eq-eqb _ _ (sym m ∙ c.if-mark-eq1.true), c.inner_normal.ensures)

pub returns : goal.returns
returns c =
    let m = c.inner_word-mark.ensures.0 in
    rw (ne_eqb _ _ (λ e. c.if-mark-eq0.false (m ∙ e)), ne_eqb _ _ (λ e. c.if-mark-eq1.false (m ∙ e)))
