use mathlib.Core.Path.{◌≡◌, sym, ap, ◌∙◌}
use mathlib.Core.Bool.{true, false}
use Rattle.effect.specs.Whole.{stock_at_most_of}
use Rattle.sheet.specs.Read.{stock_at, marked}
use Rattle.sheet.specs.Under.{stock_under}
use Rattle.engine_lower.specs.Lower.{stock_to}
use Rattle.engine_lower.proofs.stock_to.Goals as goal
use Rattle.engine_lower.proofs.stock_to.Goals.{then-is_marked+else-stock_at_most, else-is_marked}

pub returns-then-stock_at_most : goal.returns-then-stock_at_most
unfolding stock_under stock_to
returns-then-stock_at_most c =
    let a = c.args in
    let m : marked a.s.now a.w ≡ true = sym c.if-is_marked.ensures in
    let q : stock_at_most_of (stock_at a.s.now a.x.types a.w) a.h ≡ true = ap (λ v. stock_at_most_of v a.h) (sym c.stock-old.ensures) ∙ sym c.if-stock_at_most.ensures.equals in
    (simp (m, q), simp (m, q))

pub returns : goal.returns
unfolding stock_under stock_to
returns c =
    let a = c.args in
    elim c.if-is_marked.branch [
      | then-is_marked+else-stock_at_most w ↦
          let m : marked a.s.now a.w ≡ true = sym w.if-is_marked.ensures in
          let q : stock_at_most_of (stock_at a.s.now a.x.types a.w) a.h ≡ false = ap (λ v. stock_at_most_of v a.h) (sym w.stock-old.ensures) ∙ sym w.if-stock_at_most.ensures.equals in
          (simp (m, q), simp (c.write_stock.ensures, w.most-is, w.lower-most.ensures.equals, w.stock-old.ensures, m, q))
      | else-is_marked w ↦
          let m : marked a.s.now a.w ≡ false = sym w.if-is_marked.ensures in
          (simp m, simp (c.write_stock.ensures, w.most-is, m))
    ]
