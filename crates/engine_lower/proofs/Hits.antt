-- A sheet is attained if it is so block by block, and a block with the same words stays so.
use Prim.Native.Nat.{ℕ, ◌+◌, ◌*◌, ◌<◌}
use mathlib.Core.Path.{◌≡◌, refl, sym, ap, subst, ◌∙◌}
use mathlib.Core.Bool.{Bool, true, false, cond}
use mathlib.Core.List.{List}
use mathlib.Core.Logic.{◌↔◌}
use Rattle.effect.specs.declared.Stock.{Stock}
use Rattle.effect.specs.declared.Effect.{Effect}
use Rattle.effect.specs.Whole.{both_of, lower_of}
use Rattle.model.proofs.Attained.{MethodHit, NodeHit, ExitHit, Attained, hit_both}
use Rattle.model.proofs.Stocks.{laws}
use Rattle.answer.specs.declared.Answer.TheVariants.{Pass}
use Rattle.graph_tables.specs.Trailer.{tables_of}
use Rattle.graph.specs.Judge.{judge_of}
use Rattle.graph_nodes.proofs.Setting.{setting}
use Rattle.sheet_layout.specs.Layout.{stock_size, effect_size, method_at, exit_at, node_at, is_stock, block_size, block_at}
use Rattle.sheet_layout.proofs.Blocks.{size_pos, block_method, block_exit, block_node}
use Rattle.sheet.specs.Read.{SameWords, mark_at, stock_at, effect_at}
use Rattle.sheet.proofs.Same.{mark_same, stock_same, effect_same}
use Rattle.sheet_formed.specs.Sheet.{sheet_in}
use Rattle.engine_lower.proofs.Numbers.{shape, method_stock, node_effect_lem, exit_effect_lem}

module _ (f : List ℕ) (pass : judge_of f ≡ Pass) where
  -- runs bring e to the node or exit whose block is b, and h to the method whose block is b
  pub record EffectHit (b : ℕ) (e : Effect) : Type 0 where
    pub node : (n : ℕ) → n < (tables_of f).nodes → 10 * (tables_of f).methods + n ≡ b → NodeHit (setting f pass) n e
    pub exit : (m y : ℕ) → m < (tables_of f).methods → y < 9 → 10 * m + 1 + y ≡ b → ExitHit (setting f pass) m y e

  abbrev pub StockHit : ℕ → Stock → Type 0
  StockHit b h = (m : ℕ) → m < (tables_of f).methods → 10 * m ≡ b → MethodHit (setting f pass) m h

  -- the smaller of two that are brought
  pub both_hit : (b : ℕ) (a e : Effect) → EffectHit b a → EffectHit b e → EffectHit b (both_of a e)
  both_hit b a e p q =
      record {
        node = λ n l z i σ s. hit_both (setting f pass) (laws.apply_both a e i s) (p.node n l z i σ s) (q.node n l z i σ s);
        exit = λ m y l k z i σ s. hit_both (setting f pass) (laws.apply_both a e i s) (p.exit m y l k z i σ s) (q.exit m y l k z i σ s);
      }

  pub lower_hit : (b : ℕ) (h g : Stock) → StockHit b h → StockHit b g → StockHit b (lower_of h g)
  lower_hit b h g p q m l z i = hit_both (setting f pass) (laws.at_lower h g i) (p m l z i) (q m l z i)

  -- what the block b says, if it is marked
  abbrev SaidHit : Bool → List ℕ → ℕ → Type 0
  SaidHit true s b = StockHit b (stock_at s (tables_of f).types (block_at (shape f) b))
  SaidHit false s b = EffectHit b (effect_at s (tables_of f).types (block_at (shape f) b))

  abbrev pub BlockHit : List ℕ → ℕ → Type 0
  BlockHit s b = mark_at s (block_at (shape f) b) ≡ 1 → SaidHit (is_stock (shape f) b) s b

  pub effect_said : (s : List ℕ) (b : ℕ) → is_stock (shape f) b ≡ false
      → BlockHit s b ↔ (mark_at s (block_at (shape f) b) ≡ 1 → EffectHit b (effect_at s (tables_of f).types (block_at (shape f) b)))
  effect_said s b q = (λ h m. rw q at (h m), λ h m. rw q (h m))

  pub stock_said : (s : List ℕ) (b : ℕ) → is_stock (shape f) b ≡ true
      → BlockHit s b ↔ (mark_at s (block_at (shape f) b) ≡ 1 → StockHit b (stock_at s (tables_of f).types (block_at (shape f) b)))
  stock_said s b q = (λ h m. rw q at (h m), λ h m. rw q (h m))

  said_same : (s r : List ℕ) (b : ℕ) (c : Bool) → SameWords s r (block_at (shape f) b) (cond c (stock_size (tables_of f).types) (effect_size (tables_of f).types))
      → SaidHit c s b → SaidHit c r b
  said_same s r b true h p = subst (StockHit b) (stock_same s r (block_at (shape f) b) (tables_of f).types h) p
  said_same s r b false h p = subst (EffectHit b) (effect_same s r (block_at (shape f) b) (tables_of f).types h) p

  pub hit_same : (s r : List ℕ) (b : ℕ) → SameWords s r (block_at (shape f) b) (block_size (shape f) b) → BlockHit s b → BlockHit r b
  unfolding block_size
  hit_same s r b h p m = said_same s r b (is_stock (shape f) b) h (p (mark_same s r (block_at (shape f) b) (size_pos (shape f) b) h ∙ m))

  pub attained_hits : (s : List ℕ) → Attained (setting f pass) (sheet_in (shape f) s) → (b : ℕ) → BlockHit s b
  attained_hits s A b c = go (is_stock (shape f) b)
    where
      go : (k : Bool) → SaidHit k s b
      go true = λ m l z.
          let e : block_at (shape f) b ≡ method_at (shape f) m = ap (block_at (shape f)) (sym z) ∙ block_method (shape f) m l in
          rw e (A.methods_hit m (l, rw e at c))
      go false = record {
        node = λ n l z.
            let e : block_at (shape f) b ≡ node_at (shape f) n = ap (block_at (shape f)) (sym z) ∙ block_node (shape f) n in
            rw e (A.nodes_hit n (l, rw e at c));
        exit = λ m y l k z.
            let e : block_at (shape f) b ≡ exit_at (shape f) m y = ap (block_at (shape f)) (sym z) ∙ block_exit (shape f) m l y k in
            rw e (A.exits_hit m y (l, k, rw e at c));
      }

  pub hits_attained : (s : List ℕ) → ((b : ℕ) → BlockHit s b) → Attained (setting f pass) (sheet_in (shape f) s)
  hits_attained s h =
      record {
        methods_hit = λ m y.
            let e = block_method (shape f) m y.0 in
            rw e at ((stock_said s (10 * m) (method_stock (shape f) m y.0)).0 (h (10 * m)) (rw e y.1) m y.0 refl);
        nodes_hit = λ n y.
            let e = block_node (shape f) n in
            let b = 10 * (tables_of f).methods + n in
            rw e at (((effect_said s b (node_effect_lem (shape f) n)).0 (h b) (rw e y.1)).node n y.0 refl);
        exits_hit = λ m k y.
            let e = block_exit (shape f) m y.0 k y.1 in
            let b = 10 * m + 1 + k in
            rw e at (((effect_said s b (exit_effect_lem (shape f) m k y.1)).0 (h b) (rw e y.2)).exit m k y.0 y.1 refl);
      }
