-- "Mark 1 and at most", tested on the bytes of a sheet with no ill-formed block, is what the rules mean by it.
use Prim.Native.Nat.{ℕ, ◌<◌}
use mathlib.Core.Path.{◌≡◌}
use mathlib.Core.Logic.{◌↔◌}
use mathlib.Core.Bool.{true}
use mathlib.Core.List.{List}
use Rattle.effect.specs.declared.Stock.{Stock}
use Rattle.effect.specs.declared.Effect.{Effect}
use Rattle.effect.proofs.Bools.{and_l, and_r, and_i}
use Rattle.effect.proofs.Coordinate.{stock_at_sound, stock_at_complete, at_most_at_sound, at_most_at_complete}
use Rattle.model.specs.Rules.{Below, AtMost}
use Rattle.model.specs.Stocks.{permits}
use Rattle.sheet_layout.specs.declared.Shape.{Shape}
use Rattle.sheet_layout.specs.Layout.{method_at, exit_at, node_at, block_count}
use Rattle.sheet.specs.Read.{mark_at, stock_at, effect_at, marked}
use Rattle.sheet.proofs.Back.{effect_read, stock_read}
use Rattle.sheet_formed.specs.Ill.{first_ill}
use Rattle.sheet.specs.Under.{effect_under, stock_under}
use Rattle.sheet_formed.specs.Sheet.{sheet_in}
use Rattle.sheet.proofs.Marked.{mark_true, true_mark}

module _ (x : Shape) (s : List ℕ) (w : ℕ) where
  effect_sound : (e : Effect) → effect_under s x w e ≡ true → (mark_at s w ≡ 1) × AtMost permits (effect_at s x.types w) e
  unfolding effect_under
  effect_sound e h = (mark_true s w (and_l (marked s w) _ h), at_most_at_sound _ e (and_r (marked s w) _ h))

  effect_complete : (e : Effect) → mark_at s w ≡ 1 → AtMost permits (effect_at s x.types w) e → effect_under s x w e ≡ true
  unfolding effect_under
  effect_complete e m h = and_i (true_mark s w m) (at_most_at_complete _ e (λ k l. (effect_read s x.types w).keepmax.words k l) h)

  stock_sound : (h : Stock) → stock_under s x w h ≡ true → (mark_at s w ≡ 1) × Below permits (stock_at s x.types w) h
  unfolding stock_under
  stock_sound h q = (mark_true s w (and_l (marked s w) _ q), stock_at_sound _ h (and_r (marked s w) _ q))

  stock_complete : (h : Stock) → mark_at s w ≡ 1 → Below permits (stock_at s x.types w) h → stock_under s x w h ≡ true
  unfolding stock_under
  stock_complete h m q = and_i (true_mark s w m) (stock_at_complete _ h (λ k l. (stock_read s x.types w).rights.words k l) q)

-- of a sheet with no ill-formed block
module _ (x : Shape) (s : List ℕ) (whole : first_ill s x ≡ block_count x) where
  open sheet_in x s use {Called, stock, Exit, exit, Node, node}

  pub node_under : (n : ℕ) (e : Effect) → n < x.nodes → (effect_under s x (node_at x n) e ≡ true) ↔ (Node n × AtMost permits (node n) e)
  node_under n e l = (
    λ h. let p = effect_sound x s (node_at x n) e h in ((l, p.0), p.1),
    λ p. effect_complete x s (node_at x n) e p.0.1 p.1,
  )

  pub exit_under : (m y : ℕ) (e : Effect) → m < x.methods → y < 9 → (effect_under s x (exit_at x m y) e ≡ true) ↔ (Exit m y × AtMost permits (exit m y) e)
  exit_under m y e l k = (
    λ h. let p = effect_sound x s (exit_at x m y) e h in ((l, k, p.0), p.1),
    λ p. effect_complete x s (exit_at x m y) e p.0.2 p.1,
  )

  pub method_under : (m : ℕ) (h : Stock) → m < x.methods → (stock_under s x (method_at x m) h ≡ true) ↔ (Called m × Below permits (stock m) h)
  method_under m h l = (
    λ q. let p = stock_sound x s (method_at x m) h q in ((l, p.0), p.1),
    λ p. stock_complete x s (method_at x m) h p.0.1 p.1,
  )
