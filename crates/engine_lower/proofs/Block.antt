-- Lowering one block to something that runs bring keeps a sheet good, and where that was not met yet the sheet is lower.
use Prim.Native.Nat.{ℕ, ◌+◌, ◌*◌, ◌≤◌, ◌<◌}
use mathlib.Core.Path.{◌≡◌, refl, sym, ap, subst, ◌∙◌}
use mathlib.Core.Bool.{Bool, true, false, cond, true≢false}
use mathlib.Core.List.{List}
use lib.ListN.{length}
use native.Mathlib.Omega.{arith}
use Rattle.words.proofs.Lowest.{lowest_none}
use Rattle.words.proofs.Tests.{not_both}
use Rattle.effect.specs.declared.Stock.{Stock}
use Rattle.effect.specs.declared.Effect.{Effect}
use Rattle.effect.specs.Whole.{both_of, lower_of}
use Rattle.effect.proofs.Potential.{pot_of, pot_stock, both_falls, lower_falls}
use Rattle.model.proofs.Attained.{MethodHit, NodeHit, ExitHit, attained_blank}
use Rattle.answer.specs.declared.Answer.TheVariants.{Pass}
use Rattle.graph_tables.specs.Trailer.{tables_of}
use Rattle.graph.specs.Judge.{judge_of}
use Rattle.graph.proofs.Whole.{limits}
use Rattle.graph_nodes.proofs.Setting.{setting}
use Rattle.sheet_layout.specs.Layout.{stock_size, effect_size, method_at, exit_at, node_at, sheet_bytes, block_count, block_size, is_stock, block_at}
use Rattle.sheet_layout.proofs.Blocks.{stock_size_is, effect_size_is, size_pos, block_method, block_exit, block_node}
use Rattle.sheet.specs.Read.{mark_at, stock_at, effect_at, marked}
use Rattle.words.specs.Write.{splice, bytes_of}
use Rattle.sheet.specs.Write.{stock_word, effect_word, stock_bytes, effect_bytes, blanked}
use Rattle.sheet.proofs.Back.{stock_marked, stock_back, effect_marked, effect_back, blank_length, blank_word, stock_words, effect_words}
use Rattle.sheet.proofs.Potential.{block_fits}
use Rattle.sheet_formed.specs.Ill.{ill_block}
use Rattle.sheet_formed.proofs.Judged.{blank_formed, stock_formed, effect_formed}
use Rattle.sheet.specs.Under.{effect_under, stock_under}
use Rattle.sheet_formed.specs.Sheet.{sheet_in}
use Rattle.sheet.proofs.Marked.{mark_true}
use Rattle.engine_lower.specs.Lower.{effect_to, stock_to}
use Rattle.engine_lower.proofs.Good.{Stands, StockStands, rank_of, height, Good, Done}
use Rattle.engine_lower.proofs.Numbers.{shape, method_stock, node_effect_lem, exit_effect_lem}
use Rattle.engine_lower.proofs.Stands.{both_stands, lower_stands, block_stands, stock_block_stands}
use Rattle.engine_lower.proofs.Rank.{rank_effect, rank_stock, rank_unmarked, effect_less, stock_less}
use Rattle.words.proofs.Bytes.{blank_bytes}
use Rattle.engine_lower.proofs.Hits.{BlockHit, EffectHit, StockHit, both_hit, lower_hit, effect_said, stock_said, attained_hits}
use Rattle.engine_lower.proofs.Put.{put_good, put_falls}

module _ (f : List ℕ) (pass : judge_of f ≡ Pass) where
  abbrev types : ℕ
  types = (tables_of f).types

  -- r is good and lower than s; where what was asked was met, the sheet stays
  abbrev Lowered : List ℕ → List ℕ → Type 0
  Lowered s r = Good f pass r × (height (shape f) r < height (shape f) s)

  unless : (s : List ℕ) → Good f pass s → (met : Bool) (r : List ℕ) → (met ≡ false → Lowered s r) → Done f pass s (cond met s r) met
  unless s G true r h = record { idle = λ z. refl; good = G; falls = λ z. absurd (true≢false z) }
  unless s G false r h = record { idle = λ z. absurd (true≢false (sym z)); good = (h refl).0; falls = λ z. (h refl).1 }

  -- a block of a good sheet: something less is written into it, and so it is lowered to what is asked
  module _ (s : List ℕ) (G : Good f pass s) (b : ℕ) (l : b < block_count (shape f)) where
    abbrev w : ℕ
    w = block_at (shape f) b

    -- n words are written into it
    put_lowered : (g : ℕ → ℕ) (n : ℕ) → block_size (shape f) b ≡ n → ((k : ℕ) → k < n → g k < 65536) → ill_block (splice s (2 * w) (bytes_of g n)) (shape f) b ≡ false
        → BlockHit f pass (splice s (2 * w) (bytes_of g n)) b → rank_of (shape f) b (splice s (2 * w) (bytes_of g n)) < rank_of (shape f) b s → Lowered s (splice s (2 * w) (bytes_of g n))
    put_lowered g n size small ill hit less = ((rw size at (put_good f pass s G b l g)) small ill hit, (rw size at (put_falls f pass s G b l g)) less)

    -- v is asked, and it gets v, or what it says lowered to v
    lowered_done : {V : Type 0} (bytes : V → List ℕ) (met : Bool) (lower v : V) → (marked s w ≡ true → met ≡ false → Lowered s (splice s (2 * w) (bytes lower)))
        → (marked s w ≡ false → Lowered s (splice s (2 * w) (bytes v))) → Done f pass s (cond met s (splice s (2 * w) (bytes (cond (marked s w) lower v)))) met
    lowered_done bytes met lower v p q = unless s G met _ (go (marked s w) refl)
      where
        go : (m : Bool) → marked s w ≡ m → met ≡ false → Lowered s (splice s (2 * w) (bytes (cond m lower v)))
        go true m u = p m u
        go false m u = q m

    -- of a node or an exit
    module _ (q : is_stock (shape f) b ≡ false) where
      abbrev said : Effect
      said = effect_at s types w

      effect_put : (e : Effect) → Stands types e → EffectHit f pass b e → pot_of e < rank_of (shape f) b s → Lowered s (splice s (2 * w) (effect_bytes e types))
      effect_put e st h less =
          let size = effect_size_is (shape f) b q in
          let r = splice s (2 * w) (effect_bytes e types) in
          let fits : 2 * (w + effect_size types) ≤ length s = rw size at (block_fits (shape f) s G.long b l (effect_word e)) in
          let mark : mark_at r w ≡ 1 = effect_marked s types w e fits in
          let back : effect_at r types w ≡ e = effect_back s types w e fits st.fits in
          put_lowered (effect_word e) (effect_size types) size (effect_words types (limits f pass).types e st.fits) (effect_formed r (shape f) b q mark (rw back st.normal))
          ((effect_said f pass r b q).1 (λ m. rw back h)) (omega (arith, less, rank_effect (shape f) b r q mark ∙ ap pot_of back))

      effect_done : (e : Effect) → Stands types e → EffectHit f pass b e → Done f pass s (effect_to s (shape f) w e) (effect_under s (shape f) w e)
      unfolding effect_to effect_under
      effect_done e st h =
          lowered_done (λ v. effect_bytes v types) (effect_under s (shape f) w e) (both_of said e) e
          (λ p u.
          let mark = mark_true s w p in
          effect_put (both_of said e) (both_stands types said e (block_stands (shape f) s G.whole b l mark q) st)
          (both_hit f pass b said e ((effect_said f pass s b q).0 (attained_hits f pass s G.attained b) mark) h)
          (omega (arith, rank_effect (shape f) b s q mark, both_falls said e (not_both (marked s w) _ u p))))
          (λ p. effect_put e st h (omega (arith, rank_unmarked (shape f) b s p, effect_less types e st.fits)))

    -- of a method
    module _ (q : is_stock (shape f) b ≡ true) where
      abbrev held : Stock
      held = stock_at s types w

      stock_put : (h : Stock) → StockStands types h → StockHit f pass b h → pot_stock h < rank_of (shape f) b s → Lowered s (splice s (2 * w) (stock_bytes h types))
      stock_put h st hit less =
          let size = stock_size_is (shape f) b q in
          let r = splice s (2 * w) (stock_bytes h types) in
          let fits : 2 * (w + stock_size types) ≤ length s = rw size at (block_fits (shape f) s G.long b l (stock_word h)) in
          let mark : mark_at r w ≡ 1 = stock_marked s types w h fits in
          let back : stock_at r types w ≡ h = stock_back s types w h fits st.fits in
          put_lowered (stock_word h) (stock_size types) size (stock_words types (limits f pass).types h st.fits) (stock_formed r (shape f) b q mark (rw back st.counts))
          ((stock_said f pass r b q).1 (λ m. rw back hit)) (omega (arith, less, rank_stock (shape f) b r q mark ∙ ap pot_stock back))

      stock_done : (h : Stock) → StockStands types h → StockHit f pass b h → Done f pass s (stock_to s (shape f) w h) (stock_under s (shape f) w h)
      unfolding stock_to stock_under
      stock_done h st hit =
          lowered_done (λ v. stock_bytes v types) (stock_under s (shape f) w h) (lower_of held h) h
          (λ p u.
          let mark = mark_true s w p in
          stock_put (lower_of held h) (lower_stands types held h (stock_block_stands (shape f) s G.whole b l mark q) st)
          (lower_hit f pass b held h ((stock_said f pass s b q).0 (attained_hits f pass s G.attained b) mark) hit)
          (omega (arith, rank_stock (shape f) b s q mark, lower_falls held h (not_both (marked s w) _ u p))))
          (λ p. stock_put h st hit (omega (arith, rank_unmarked (shape f) b s p, stock_less types h st.fits)))

  -- the block of a node, of an exit, of a method
  module _ (s : List ℕ) (G : Good f pass s) where
    pub node_done : (n : ℕ) → n < (tables_of f).nodes → (e : Effect) → Stands types e → NodeHit (setting f pass) n e
        → Done f pass s (effect_to s (shape f) (node_at (shape f) n) e) (effect_under s (shape f) (node_at (shape f) n) e)
    node_done n l e st h =
        rw (block_node (shape f) n) at
        (effect_done s G (10 * (tables_of f).methods + n) (omega arith) (node_effect_lem (shape f) n) e st
        (record {
          node = λ k u z. subst (λ (j : ℕ). NodeHit (setting f pass) j e) (omega arith) h;
          exit = λ m y u v z. absurd (omega arith);
        }))

    pub exit_done : (m y : ℕ) → m < (tables_of f).methods → y < 9 → (e : Effect) → Stands types e → ExitHit (setting f pass) m y e
        → Done f pass s (effect_to s (shape f) (exit_at (shape f) m y) e) (effect_under s (shape f) (exit_at (shape f) m y) e)
    exit_done m y l v e st h =
        rw (block_exit (shape f) m l y v) at
        (effect_done s G (10 * m + 1 + y) (omega arith) (exit_effect_lem (shape f) m y v) e st
        (record {
          node = λ n u z. absurd (omega arith);
          exit = λ k j u c z.
              let p : m ≡ k = omega arith in
              let q : y ≡ j = omega arith in
              subst (λ (i : ℕ). ExitHit (setting f pass) k i e) q (subst (λ (i : ℕ). ExitHit (setting f pass) i y e) p h);
        }))

    pub method_done : (m : ℕ) → m < (tables_of f).methods → (h : Stock) → StockStands types h → MethodHit (setting f pass) m h
        → Done f pass s (stock_to s (shape f) (method_at (shape f) m) h) (stock_under s (shape f) (method_at (shape f) m) h)
    method_done m l h st hit =
        rw (block_method (shape f) m l) at
        (stock_done s G (10 * m) (omega arith) (method_stock (shape f) m l) h st
        (λ k u z. subst (λ (j : ℕ). MethodHit (setting f pass) j h) (omega arith) hit))

  -- where it starts: a blank sheet
  pub blank_good : (s : List ℕ) → length s ≡ sheet_bytes (shape f) → Good f pass (blanked s)
  blank_good s h =
      record {
        long = blank_length s ∙ h;
        bytes = blank_bytes (length s);
        whole = lowest_none (ill_block (blanked s) (shape f)) (block_count (shape f)) (λ b l. blank_formed (blanked s) (shape f) b (λ v u k. blank_word s v) (size_pos (shape f) b));
        attained = attained_blank (setting f pass) (sheet_in (shape f) (blanked s)) (λ m y. unmarked _ y.1) (λ n y. unmarked _ y.1) (λ m k y. unmarked _ y.2);
      }
    where
      unmarked : (v : ℕ) → mark_at (blanked s) v ≡ 1 → ⊥
      unmarked v c = omega (arith, blank_word s v)
