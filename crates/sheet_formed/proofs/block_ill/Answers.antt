use mathlib.Core.Path.{◌≡◌, sym, ◌∙◌}
use mathlib.Core.Bool.{false, cond, not}
use borrow.Author.Tests.{not-true}
use Rattle.words.proofs.Tests.{and_l, and_r}
use Rattle.sheet_layout.specs.Layout.{is_stock}
use Rattle.sheet_layout.proofs.Blocks.{effect_size_is}
use Rattle.effect.specs.Whole.{normal_of}
use Rattle.sheet.specs.Read.{mark_at, stock_at, effect_at}
use Rattle.sheet_formed.specs.Ill.{some_word, counts_fit, ill_by, ill_block}
use Rattle.sheet_formed.proofs.block_ill.Goals as goal

pub inner_ill-requires : goal.inner_ill-requires
inner_ill-requires c = c.lies_in.ensures.0 (and_r (not c.is_stock-stock.result) _ c.if-stock-lies_in.true)

pub returns-then-stock-lies_in : goal.returns-then-stock-lies_in
unfolding ill_block
returns-then-stock-lies_in c =
    let a = c.args in
    let s = a.s.now in
    let t = a.x.types in
    let e = c.block_at-w.ensures.0 in
    let q : is_stock a.x a.b ≡ false = sym c.is_stock-stock.ensures ∙ not-true _ (and_l _ _ c.if-stock-lies_in.true) in
    c.inner_ill.ensures
    ∙ (λ i. ill_by (mark_at s (e i)) (some_word s (e i) (sym (effect_size_is a.x a.b q) i)) (cond (sym q i) (counts_fit (stock_at s t (e i))) (normal_of (effect_at s t (e i)))))
