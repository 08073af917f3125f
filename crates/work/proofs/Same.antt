-- A well-formed block is settled by its mark and what it says there.
use Prim.Native.Nat.{ℕ, ◌+◌, ◌-◌, ◌*◌, ◌/◌, ◌%◌, ◌≤◌, ◌<◌}
use mathlib.Core.Path.{◌≡◌, sym, ap, ◌∙◌}
use mathlib.Core.Logic.{◌⊎◌, inl, inr, ⊎_elim}
use mathlib.Core.Bool.{true, false}
use mathlib.Core.List.{List}
use native.Mathlib.Decide.{ℕ_discrete}
use native.Mathlib.Nat.{div-add-mod, div-lt_iff_lt-mul, mod-lt}
use native.Mathlib.Omega.{arith}
use Rattle.effect.specs.Whole.{normal_of}
use Rattle.effect.proofs.Laws.{stock_anti, at_most_anti}
use Rattle.effect.proofs.Coordinate.{stock_at_complete, at_most_at_complete}
use Rattle.model.specs.Rules.{Below, AtMost}
use Rattle.model.specs.Stocks.{permits}
use Rattle.sheet_layout.specs.declared.Shape.{Shape}
use Rattle.sheet_layout.specs.Layout.{stock_size, effect_size, is_stock, block_size, block_at}
use Rattle.sheet_layout.proofs.Blocks.{stock_size_is, effect_size_is}
use Rattle.sheet.specs.Read.{sheet_word, SameWords, mark_at, stock_at, effect_at}
use Rattle.sheet.specs.Write.{stock_field, effect_field}
use Rattle.sheet.proofs.Back.{stock_word_read, effect_word_read, stock_read, effect_read}
use Rattle.sheet_formed.specs.Ill.{counts_fit}
use Rattle.sheet_formed.proofs.Judged.{Formed, counts_le}

-- a block's words are its mark, then z of each type
block_words : (z t w : ℕ) (s r : List ℕ) → 0 < z → mark_at s w ≡ mark_at r w
    → ((k j : ℕ) → k < t → j < z → sheet_word s (w + (1 + j + z * k)) ≡ sheet_word r (w + (1 + j + z * k))) → SameWords s r w (1 + z * t)
block_words z t w s r some mark h v from to = elim (ℕ_discrete v w) [
  | yes q ↦ rw q mark
  | no q ↦
      let i = v - w - 1 in
      let p : w + (1 + i % z + z * (i / z)) ≡ v = omega (arith, div-add-mod i z) in
      rw p at (h (i / z) (i % z) ((div-lt_iff_lt-mul some).1 (omega arith)) (mod-lt i some))
]

-- so they follow from its mark and what is read of it
module _ (t w : ℕ) (few : t ≤ 6) (s r : List ℕ) (mark : mark_at s w ≡ mark_at r w) where
  stock_words : stock_at s t w ≡ stock_at r t w → SameWords s r w (stock_size t)
  stock_words e =
      block_words 2 t w s r (omega arith) mark
      (λ k j u l. stock_word_read s t w k u (omega arith) j l ∙ ap (λ x. stock_field x k j) e ∙ sym (stock_word_read r t w k u (omega arith) j l))

  effect_words : effect_at s t w ≡ effect_at r t w → SameWords s r w (effect_size t)
  effect_words e =
      block_words 4 t w s r (omega arith) mark
      (λ k j u l. effect_word_read s t w k u (omega arith) j l ∙ ap (λ x. effect_field x k j) e ∙ sym (effect_word_read r t w k u (omega arith) j l))

-- stocks whose counts fit, and normal effects, that are at most each other are the same
module _ (t w : ℕ) where
  one_stock : (s r : List ℕ) → counts_fit (stock_at s t w) ≡ true → counts_fit (stock_at r t w) ≡ true → Below permits (stock_at s t w) (stock_at r t w)
      → Below permits (stock_at r t w) (stock_at s t w) → stock_at s t w ≡ stock_at r t w
  one_stock s r c d p q =
      stock_anti (stock_at s t w) (stock_at r t w) (stock_read s t w).six (stock_read r t w).six (counts_le _ c) (counts_le _ d)
      (stock_at_complete _ _ (λ k l. (stock_read s t w).rights.words k l) p) (stock_at_complete _ _ (λ k l. (stock_read r t w).rights.words k l) q)

  one_effect : (s r : List ℕ) → normal_of (effect_at s t w) ≡ true → normal_of (effect_at r t w) ≡ true → AtMost permits (effect_at s t w) (effect_at r t w)
      → AtMost permits (effect_at r t w) (effect_at s t w) → effect_at s t w ≡ effect_at r t w
  one_effect s r m n p q =
      at_most_anti (effect_at s t w) (effect_at r t w) m n (effect_read s t w).six (effect_read r t w).six
      (at_most_at_complete _ _ (λ k l. (effect_read s t w).keepmax.words k l) p) (at_most_at_complete _ _ (λ k l. (effect_read r t w).keepmax.words k l) q)

-- where r marks a block, s does and says at most the same there
abbrev pub StockUnder : (t w : ℕ) → List ℕ → List ℕ → Type 0
StockUnder t w s r = mark_at r w ≡ 1 → (mark_at s w ≡ 1) × Below permits (stock_at s t w) (stock_at r t w)

abbrev pub EffectUnder : (t w : ℕ) → List ℕ → List ℕ → Type 0
EffectUnder t w s r = mark_at r w ≡ 1 → (mark_at s w ≡ 1) × AtMost permits (effect_at s t w) (effect_at r t w)

same_marks : (a b : ℕ) → a ≤ 1 → b ≤ 1 → (a ≡ 1 → b ≡ 1) → (b ≡ 1 → a ≡ 1) → ((a ≡ 0) × (b ≡ 0)) ⊎ ((a ≡ 1) × (b ≡ 1))
same_marks a b h k p q = elim (ℕ_discrete a 1) [
  | yes e ↦ inr (e, p e)
  | no e ↦ elim (ℕ_discrete b 1) [
    | yes d ↦ absurd (e (q d))
    | no d ↦ inl (omega arith, omega arith)
  ]
]

module _ (x : Shape) (few : x.types ≤ 6) (s r : List ℕ) (b : ℕ) (g : Formed s x b) (h : Formed r x b) where
  abbrev w : ℕ
  w = block_at x b

  -- two blocks that are marked alike: both blank, or both marked
  alike : (mark_at s w ≡ 1 → mark_at r w ≡ 1) → (mark_at r w ≡ 1 → mark_at s w ≡ 1) → (mark_at s w ≡ 1 → mark_at r w ≡ 1 → SameWords s r w (block_size x b)) → SameWords s r w (block_size x b)
  alike p q same =
      ⊎_elim (λ z v l u. g.blank z.0 v l u ∙ sym (h.blank z.1 v l u)) (λ m. same m.0 m.1)
      (same_marks (mark_at s w) (mark_at r w) g.a_mark h.a_mark p q)

  -- and that say at most each other's
  pub stock_settled : is_stock x b ≡ true → StockUnder x.types w s r → StockUnder x.types w r s → SameWords s r w (block_size x b)
  stock_settled i p q =
      alike (λ m. (q m).0) (λ m. (p m).0)
      (λ m n. rw (stock_size_is x b i)
      (stock_words x.types w few s r (m ∙ sym n) (one_stock x.types w s r (g.counts i m) (h.counts i n) (p n).1 (q m).1)))

  pub effect_settled : is_stock x b ≡ false → EffectUnder x.types w s r → EffectUnder x.types w r s → SameWords s r w (block_size x b)
  effect_settled i p q =
      alike (λ m. (q m).0) (λ m. (p m).0)
      (λ m n. rw (effect_size_is x b i)
      (effect_words x.types w few s r (m ∙ sym n) (one_effect x.types w s r (g.normal i m) (h.normal i n) (p n).1 (q m).1)))
