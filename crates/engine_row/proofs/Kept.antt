-- What one lowering does to the other blocks, and to what was met: another block stands as it was, what was met stays met, and what was asked
-- is met.
--   placed, others_same, met_kept, met_own
use Prim.Native.Nat.{ℕ, ◌+◌, ◌*◌, ◌≤◌, ◌<◌}
use mathlib.Core.Path.{◌≡◌, refl, sym, subst, ◌∙◌}
use mathlib.Core.Logic.{◌⊎◌, inl, inr, ⊎_elim}
use mathlib.Core.Bool.{Bool, true, false, cond, ◌&&◌, true≢false}
use mathlib.Core.List.{List}
use native.Mathlib.Decide.{ℕ_discrete}
use native.Mathlib.Omega.{arith}
use lib.ListN.{length}
use Rattle.words.specs.Write.{splice, bytes_of}
use Rattle.words.proofs.Tests.{and_l, and_r}
use Rattle.answer.specs.declared.Answer.TheVariants.{Pass}
use Rattle.effect.specs.declared.Stock.{Stock}
use Rattle.effect.specs.declared.Effect.{Effect}
use Rattle.effect.specs.Whole.{at_most_of, stock_at_most_of, both_of, lower_of}
use Rattle.effect.proofs.Single.{below_refl, below_trans}
use Rattle.effect.specs.Six.{held_at}
use Rattle.effect.proofs.Laws.{at_most_refl, at_most_trans, both_left, both_right, EachBelow, stock_sound, stock_complete, lower_comm, lower_below}
use Rattle.graph_tables.specs.declared.Tables.{Tables}
use Rattle.graph_tables.specs.Trailer.{tables_of}
use Rattle.graph.specs.Judge.{judge_of}
use Rattle.graph.specs.Judgement.{shape_of}
use Rattle.sheet_layout.specs.declared.Shape.{Shape}
use Rattle.sheet_layout.specs.Layout.{stock_size, effect_size, block_count, block_size, block_at, is_stock}
use Rattle.sheet_layout.proofs.Blocks.{stock_size_is, effect_size_is, size_pos, block_method, block_exit, block_node}
use Rattle.sheet.specs.Read.{SameWords, stock_at, effect_at, marked}
use Rattle.sheet.specs.Write.{stock_word, effect_word, stock_bytes, effect_bytes}
use Rattle.sheet.specs.Under.{effect_under, stock_under}
use Rattle.sheet.proofs.Same.{mark_same, stock_same, effect_same}
use Rattle.sheet.proofs.Back.{stock_marked, stock_back, effect_marked, effect_back}
use Rattle.sheet.proofs.Marked.{mark_true, true_mark}
use Rattle.sheet.proofs.Potential.{block_fits, other_block}
use Rattle.rule_ask.specs.Walk.{Ask, of_effect, of_stock, meets}
use Rattle.engine_lower.specs.Lower.{effect_to, stock_to}
use Rattle.engine_lower.proofs.Good.{Stands, StockStands, Good}
use Rattle.engine_lower.proofs.Numbers.{method_stock, node_effect_lem, exit_effect_lem}
use Rattle.engine_lower.proofs.Stands.{both_stands, lower_stands, block_stands, stock_block_stands}
use Rattle.engine_row.specs.Lowers.{lowered_to}
use Rattle.engine_row.proofs.Brought.{Brought, of_node, of_exit, of_method}

-- the order of stocks
below : (s u v : Stock) → EachBelow s u → stock_at_most_of u v ≡ true → stock_at_most_of s v ≡ true
below s u v p h = stock_complete s v (λ k l. below_trans (p k l) (stock_sound u v h k l))

stock_refl : (s : Stock) → stock_at_most_of s s ≡ true
stock_refl s = stock_complete s s (λ k l. below_refl (held_at s k))

-- both tests hold
and_both : {a b : Bool} → a ≡ true → b ≡ true → (a && b) ≡ true
and_both p q = rw (p, q) refl

module _ (f : List ℕ) (pass : judge_of f ≡ Pass) where
  abbrev t : Tables
  t = tables_of f

  abbrev x : Shape
  x = shape_of t

  abbrev types : ℕ
  types = t.types

  -- asked of the block b
  pub data Placed (b : ℕ) : Ask → Type 0 where
    effect_at_lem : (r : ℕ) (e : Effect) → is_stock x b ≡ false → Stands types e → Placed b (of_effect r (block_at x b) e)
    stock_at_lem : (r : ℕ) (h : Stock) → is_stock x b ≡ true → StockStands types h → Placed b (of_stock r (block_at x b) h)

  pub placed : {a : Ask} → Brought f pass a → (b : ℕ) × (b < block_count x) × Placed b a
  placed (of_node r n e l st h) =
      (10 * t.methods + n, omega arith, subst (λ w. Placed (10 * t.methods + n) (of_effect r w e)) (block_node x n) (effect_at_lem r e (node_effect_lem x n) st))
  placed (of_exit r m y e l k st h) =
      (10 * m + 1 + y, omega arith, subst (λ w. Placed (10 * m + 1 + y) (of_effect r w e)) (block_exit x m l y k) (effect_at_lem r e (exit_effect_lem x m y k) st))
  placed (of_method r m h l st hit) = (10 * m, omega arith, subst (λ w. Placed (10 * m) (of_stock r w h)) (block_method x m l) (stock_at_lem r h (method_stock x m l) st))

  -- what is asked of a block that stands as it was is met as it was
  same_met : (s r : List ℕ) {b : ℕ} {a : Ask} → Placed b a → SameWords r s (block_at x b) (block_size x b) → meets x s a ≡ true → meets x r a ≡ true
  unfolding effect_under stock_under
  same_met s r {b} (effect_at_lem k e q st) h m =
      let same : SameWords r s (block_at x b) (effect_size types) = subst (SameWords r s (block_at x b)) (effect_size_is x b q) h in
      and_both (true_mark r (block_at x b) (mark_same r s (block_at x b) (size_pos x b) h ∙ mark_true s (block_at x b) (and_l (marked s (block_at x b)) _ m)))
      (rw (effect_same r s (block_at x b) types same) (and_r (marked s (block_at x b)) _ m))
  same_met s r {b} (stock_at_lem k e q st) h m =
      let same : SameWords r s (block_at x b) (stock_size types) = subst (SameWords r s (block_at x b)) (stock_size_is x b q) h in
      and_both (true_mark r (block_at x b) (mark_same r s (block_at x b) (size_pos x b) h ∙ mark_true s (block_at x b) (and_l (marked s (block_at x b)) _ m)))
      (rw (stock_same r s (block_at x b) types same) (and_r (marked s (block_at x b)) _ m))

  module _ (s : List ℕ) (G : Good f pass s) (b : ℕ) (l : b < block_count x) where
    abbrev w : ℕ
    w = block_at x b

    -- an effect is written into the block
    module _ (q : is_stock x b ≡ false) where
      effect_fits : 2 * (w + effect_size types) ≤ length s
      effect_fits = rw (effect_size_is x b q) at (block_fits x s G.long b l (λ k. 0))

      effect_reads : (e d : Effect) → Stands types e → at_most_of e d ≡ true → effect_under (splice s (2 * w) (effect_bytes e types)) x w d ≡ true
      unfolding effect_under
      effect_reads e d st h =
          and_both (true_mark _ w (effect_marked s types w e effect_fits)) (rw (effect_back s types w e effect_fits st.fits) h)

      effect_others : (e : Effect) (c : ℕ) → (c ≡ b → ⊥) → SameWords (effect_to s x w e) s (block_at x c) (block_size x c)
      unfolding effect_to
      effect_others e c ne = go (effect_under s x w e)
        where
          go : (u : Bool) → SameWords (cond u s (splice s (2 * w) (effect_bytes (cond (marked s w) (both_of (effect_at s types w) e) e) types))) s (block_at x c) (block_size x c)
          go true = λ v p r. refl
          go false = subst (λ n. SameWords (splice s (2 * w) (bytes_of (effect_word (cond (marked s w) (both_of (effect_at s types w) e) e)) n)) s (block_at x c) (block_size x c)) (effect_size_is x b q) (other_block x s G.long b l (effect_word (cond (marked s w) (both_of (effect_at s types w) e) e)) c ne)

      -- what was met stays met, and what is at least what is asked is met
      effect_lowered : (e d : Effect) → Stands types e → (effect_under s x w d ≡ true) ⊎ (at_most_of e d ≡ true) → effect_under (effect_to s x w e) x w d ≡ true
      unfolding effect_to effect_under
      effect_lowered e d st h = go (effect_under s x w e) refl (marked s w) refl
        where
          go : (u : Bool) → effect_under s x w e ≡ u → (m : Bool) → marked s w ≡ m
              → effect_under (cond u s (splice s (2 * w) (effect_bytes (cond m (both_of (effect_at s types w) e) e) types))) x w d ≡ true
          go true u m k = ⊎_elim (λ p. p) (λ p. and_both (and_l (marked s w) _ u) (at_most_trans (effect_at s types w) e d (and_r (marked s w) _ u) p)) h
          go false u true k =
              effect_reads (both_of (effect_at s types w) e) d (both_stands types (effect_at s types w) e (block_stands x s G.whole b l (mark_true s w k) q) st)
              (⊎_elim (λ p. at_most_trans (both_of (effect_at s types w) e) (effect_at s types w) d (both_left (effect_at s types w) e) (and_r (marked s w) _ p))
              (λ p. at_most_trans (both_of (effect_at s types w) e) e d (both_right (effect_at s types w) e) p) h)
          go false u false k = ⊎_elim (λ p. absurd (true≢false (sym (and_l (marked s w) _ p) ∙ k))) (λ p. effect_reads e d st p) h

    -- a stock
    module _ (q : is_stock x b ≡ true) where
      stock_fits : 2 * (w + stock_size types) ≤ length s
      stock_fits = rw (stock_size_is x b q) at (block_fits x s G.long b l (λ k. 0))

      stock_reads : (h g : Stock) → StockStands types h → stock_at_most_of h g ≡ true → stock_under (splice s (2 * w) (stock_bytes h types)) x w g ≡ true
      unfolding stock_under
      stock_reads h g st p = and_both (true_mark _ w (stock_marked s types w h stock_fits)) (rw (stock_back s types w h stock_fits st.fits) p)

      stock_others : (h : Stock) (c : ℕ) → (c ≡ b → ⊥) → SameWords (stock_to s x w h) s (block_at x c) (block_size x c)
      unfolding stock_to
      stock_others h c ne = go (stock_under s x w h)
        where
          go : (u : Bool) → SameWords (cond u s (splice s (2 * w) (stock_bytes (cond (marked s w) (lower_of (stock_at s types w) h) h) types))) s (block_at x c) (block_size x c)
          go true = λ v p r. refl
          go false = subst (λ n. SameWords (splice s (2 * w) (bytes_of (stock_word (cond (marked s w) (lower_of (stock_at s types w) h) h)) n)) s (block_at x c) (block_size x c)) (stock_size_is x b q) (other_block x s G.long b l (stock_word (cond (marked s w) (lower_of (stock_at s types w) h) h)) c ne)

      stock_lowered : (h g : Stock) → StockStands types h → (stock_under s x w g ≡ true) ⊎ (stock_at_most_of h g ≡ true) → stock_under (stock_to s x w h) x w g ≡ true
      unfolding stock_to stock_under
      stock_lowered h g st o = go (stock_under s x w h) refl (marked s w) refl
        where
          held : Stock
          held = stock_at s types w

          go : (u : Bool) → stock_under s x w h ≡ u → (m : Bool) → marked s w ≡ m
              → stock_under (cond u s (splice s (2 * w) (stock_bytes (cond m (lower_of (stock_at s types w) h) h) types))) x w g ≡ true
          go true u m k = ⊎_elim (λ p. p) (λ p. and_both (and_l (marked s w) _ u) (below held h g (stock_sound held h (and_r (marked s w) _ u)) p)) o
          go false u true k =
              stock_reads (lower_of held h) g (lower_stands types held h (stock_block_stands x s G.whole b l (mark_true s w k) q) st)
              (⊎_elim (λ p. below (lower_of held h) held g (lower_below held h) (and_r (marked s w) _ p))
              (λ p. below (lower_of held h) h g (subst (λ v. EachBelow v h) (lower_comm h held) (lower_below h held)) p) o)
          go false u false k = ⊎_elim (λ p. absurd (true≢false (sym (and_l (marked s w) _ p) ∙ k))) (λ p. stock_reads h g st p) o

    pub others_same : {a : Ask} → Placed b a → (c : ℕ) → (c ≡ b → ⊥) → SameWords (lowered_to x s a) s (block_at x c) (block_size x c)
    others_same (effect_at_lem r e q st) = effect_others q e
    others_same (stock_at_lem r h q st) = stock_others q h

    own_kept : {a d : Ask} → Placed b a → Placed b d → meets x s d ≡ true → meets x (lowered_to x s a) d ≡ true
    own_kept (effect_at_lem r e q st) (effect_at_lem k d p u) m = effect_lowered q e d st (inl m)
    own_kept (effect_at_lem r e q st) (stock_at_lem k d p u) m = absurd (true≢false (sym p ∙ q))
    own_kept (stock_at_lem r e q st) (effect_at_lem k d p u) m = absurd (true≢false (sym q ∙ p))
    own_kept (stock_at_lem r e q st) (stock_at_lem k d p u) m = stock_lowered q e d st (inl m)

    -- what was met stays met
    pub met_kept : {a d : Ask} → Placed b a → {c : ℕ} → Placed c d → meets x s d ≡ true → meets x (lowered_to x s a) d ≡ true
    met_kept {a} {d} p {c} u m = elim (ℕ_discrete c b) [
      | yes e ↦ own_kept p (subst (λ n. Placed n d) e u) m
      | no e ↦ same_met s (lowered_to x s a) u (others_same p c e) m
    ]

    -- what was asked is met
    pub met_own : {a : Ask} → Placed b a → meets x (lowered_to x s a) a ≡ true
    met_own (effect_at_lem r e q st) = effect_lowered q e e st (inr (at_most_refl e))
    met_own (stock_at_lem r h q st) = stock_lowered q h h st (inr (stock_refl h))
