-- A block's number is of its words alone. Of a marked block it is the potential of what it says, which is less than an unmarked one's.
use Prim.Native.Nat.{ℕ, ◌<◌}
use mathlib.Core.Path.{◌≡◌, ap}
use mathlib.Core.Bool.{Bool, true, false, cond}
use mathlib.Core.List.{List}
use lib.Dec.{eqb}
use Rattle.effect.specs.declared.Stock.{Stock}
use Rattle.effect.specs.declared.Effect.{Effect}
use Rattle.effect.proofs.Potential.{pot_of, pot_stock}
use Rattle.effect.proofs.Fields.{effect_small, stock_small}
use Rattle.sheet_layout.specs.declared.Shape.{Shape}
use Rattle.sheet_layout.specs.Layout.{stock_size, effect_size, is_stock, block_size, block_at}
use Rattle.sheet_layout.proofs.Blocks.{size_pos}
use Rattle.sheet.specs.Read.{SameWords, mark_at, stock_at, effect_at, marked}
use Rattle.sheet.proofs.Same.{mark_same, stock_same, effect_same}
use Rattle.sheet.proofs.Back.{EffectFits, StockFits}
use Rattle.sheet.proofs.Marked.{true_mark}
use Rattle.engine_lower.proofs.Good.{rank_of}

module _ (x : Shape) (b : ℕ) (s : List ℕ) where
  pub rank_effect : is_stock x b ≡ false → mark_at s (block_at x b) ≡ 1 → rank_of x b s ≡ pot_of (effect_at s x.types (block_at x b))
  unfolding rank_of
  rank_effect q m = rw (true_mark s (block_at x b) m, q)

  pub rank_stock : is_stock x b ≡ true → mark_at s (block_at x b) ≡ 1 → rank_of x b s ≡ pot_stock (stock_at s x.types (block_at x b))
  unfolding rank_of
  rank_stock q m = rw (true_mark s (block_at x b) m, q)

  pub rank_unmarked : marked s (block_at x b) ≡ false → rank_of x b s ≡ 1000000
  unfolding rank_of
  rank_unmarked m = rw m

said_same : (s r : List ℕ) (t w : ℕ) (c : Bool) → SameWords s r w (cond c (stock_size t) (effect_size t))
    → cond c (pot_stock (stock_at s t w)) (pot_of (effect_at s t w)) ≡ cond c (pot_stock (stock_at r t w)) (pot_of (effect_at r t w))
said_same s r t w true h = ap pot_stock (stock_same s r w t h)
said_same s r t w false h = ap pot_of (effect_same s r w t h)

pub rank_same : (x : Shape) (b : ℕ) (s r : List ℕ) → SameWords s r (block_at x b) (block_size x b) → rank_of x b s ≡ rank_of x b r
unfolding rank_of block_size marked
rank_same x b s r h =
    let m = mark_same s r (block_at x b) (size_pos x b) h in
    let c = said_same s r x.types (block_at x b) (is_stock x b) h in
    λ i. cond (eqb (m i) 1) (c i) 1000000

-- what fits into words has a small potential
pub effect_less : (t : ℕ) (e : Effect) → EffectFits t e → pot_of e < 1000000
effect_less t e h = effect_small e h.keepin.words h.keepmax.words

pub stock_less : (t : ℕ) (h : Stock) → StockFits t h → pot_stock h < 1000000
stock_less t h g = stock_small h g.rights.words
