use Prim.Native.Nat.{ℕ}
use mathlib.Core.List.{List}
use mathlib.Core.Path.{◌≡◌, ap, sym, ◌∙◌}
use borrow.Author.Tests.{eq-eqb, ne_eqb}
use Rattle.sheet.specs.Read.{mark_at}
use Rattle.sheet_formed.specs.Ill.{ill_block}
use Rattle.sheet_formed.proofs.any_ill.Goals as goal

mark_is : (s : List ℕ) {m w v : ℕ} → m ≡ mark_at s w → w ≡ v → m ≡ mark_at s v
mark_is s e p = e ∙ ap (mark_at s) p

pub returns-then-m-eq0 : goal.returns-then-m-eq0
unfolding ill_block
returns-then-m-eq0 c = simp (eq-eqb _ _ (sym (mark_is c.args.s.now c.mark-m.ensures c.block_at-w.ensures.0) ∙ c.if-m-eq0.true), c.block_at-w.ensures.0, c.block_size.ensures.0, c.some_word.ensures)

pub returns-then-m-eq1 : goal.returns-then-m-eq1
unfolding ill_block
returns-then-m-eq1 c =
    simp (
      ne_eqb _ _ (λ e. c.if-m-eq0.false (mark_is c.args.s.now c.mark-m.ensures c.block_at-w.ensures.0 ∙ e)),
      eq-eqb _ _ (sym (mark_is c.args.s.now c.mark-m.ensures c.block_at-w.ensures.0) ∙ c.if-m-eq1.true),
      c.block_at-w.ensures.0,
      c.is_stock.ensures,
      c.content_fits.ensures,
    )

pub returns : goal.returns
unfolding ill_block
returns c = rw (ne_eqb _ _ (λ e. c.if-m-eq0.false (mark_is c.args.s.now c.mark-m.ensures c.block_at-w.ensures.0 ∙ e)), ne_eqb _ _ (λ e. c.if-m-eq1.false (mark_is c.args.s.now c.mark-m.ensures c.block_at-w.ensures.0 ∙ e)))
