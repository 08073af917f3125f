-- What the words of two sheets say, each of which is under the other with the methods' stocks of some types kept: exits and nodes have the same
-- words, methods the same marks; and of a type that is kept, the one's stock is at most the other's.
use Prim.Native.Nat.{ℕ, ◌+◌, ◌-◌, ◌*◌, ◌/◌, ◌%◌, ◌≤◌, ◌<◌}
use mathlib.Core.Path.{◌≡◌, sym, ap, ◌∙◌}
use mathlib.Core.Bool.{Bool, true}
use mathlib.Core.List.{List}
use native.Mathlib.Decide.{dec_lt, ℕ_discrete}
use native.Mathlib.Nat.{le_of_eq}
use native.Mathlib.Omega.{arith}
use lib.Bits.{and_le_r}
use borrow.Author.Tests.{lt-ltb, le-ltb, eq-eqb, ne_eqb, eqb-true}
use Rattle.words.proofs.Read.{word_lt}
use Rattle.effect_number.specs.Number.{counted}
use Rattle.effect_number.specs.Formulas.{within}
use Rattle.effect.specs.Coordinate.{RightsWithin, bit, right, count, at}
use Rattle.effect.proofs.Bit.{bit_none, word_bits, bit_within}
use Rattle.model.specs.Rules.{Under}
use Rattle.model.specs.Stocks.{permits}
use Rattle.model.proofs.Opening.{masked}
use Rattle.graph.specs.Graph.{graph_of}
use Rattle.graph.proofs.Whole.{limits}
use Rattle.sheet_layout.specs.declared.Shape.{Shape}
use Rattle.sheet_layout.specs.Layout.{stock_size, method_at, sheet_words, is_stock}
use Rattle.sheet_layout.proofs.Blocks.{at_method, at_exit, at_node, size_method, size_exit, size_node, block_method, method_size, block_exit, exit_size, block_node, node_size}
use Rattle.sheet.specs.Read.{sheet_word, mark_at, stock_at}
use Rattle.sheet.proofs.Back.{stock_word_read}
use Rattle.sheet_formed.proofs.Judged.{Formed, formed, counts_le}
use Rattle.rule_test.specs.Sheet.{shape, sheet, WellFormed}
use Rattle.work.proofs.Same.{effect_settled}
use Rattle.work.proofs.Words.{stands}
use Rattle.raised.specs.Outcome.{EffectsStay, rights_at, count_at}
use Rattle.raised.proofs.Stocks.{keeping, at_kept}

-- rights that are within others are no larger as a number
within_le : (p q : ℕ) → RightsWithin p q → p ≤ q
unfolding within
within_le p q h = omega (arith, eqb-true _ p (bit_within p q h), and_le_r p q)

-- what a stock that is read says at a coordinate is what its words say
module _ (s : List ℕ) (t w k : ℕ) (l : k < t) (u : k < 6) where
  read_right : (b : ℕ) (h : b < 16) → at (right k b u h) (stock_at s t w) ≡ bit b (sheet_word s (w + (1 + 2 * k)))
  unfolding at
  read_right b h = ap (bit b) (sym (stock_word_read s t w k l u 0 (omega arith)))

  read_count : at (count k u) (stock_at s t w) ≡ counted (sheet_word s (w + (2 + 2 * k)))
  unfolding at
  read_count = ap counted (sym (stock_word_read s t w k l u 1 (omega arith)))

-- of the type k, what s says of the method m is at most what z says
pub record Lower (x : Shape) (s z : List ℕ) (m k : ℕ) : Type 0 where
  pub rights : RightsWithin (sheet_word s (rights_at x m k)) (sheet_word z (rights_at x m k))
  pub count : sheet_word s (count_at x m k) ≤ sheet_word z (count_at x m k)

module _ (f : List ℕ) where
  abbrev x : Shape
  x = shape f

  -- s under z, with the stocks of some types kept
  module _ (s z : List ℕ) (v : WellFormed f s) (w : WellFormed f z) (keep : ℕ → Bool) (u : Under permits (graph_of f) (masked (keeping keep) (sheet f s)) (sheet f z))
      (m : ℕ) (l : m < x.methods) where
    few : x.types ≤ 6
    few = (limits f v.0).types

    method_formed : Formed s x (10 * m)
    method_formed = formed s x (10 * m) (v.2 (10 * m) (omega arith))

    at_stock : is_stock x (10 * m) ≡ true
    at_stock = simp (lt-ltb (10 * m) (10 * x.methods) (omega arith), eq-eqb (10 * m % 10) 0 (omega arith))

    pub a_mark : mark_at s (method_at x m) ≤ 1
    a_mark = rw (← block_method x m l) method_formed.a_mark

    module _ (k : ℕ) (h : k < x.types) where
      blank : mark_at s (method_at x m) ≡ 0 → Lower x s z m k
      blank e =
          let zero = rw (block_method x m l, method_size x m l) at (method_formed.blank (rw (block_method x m l) e)) in
          record {
            rights = rw (zero (rights_at x m k) (omega arith) (omega arith)) (λ b. omega (arith, bit_none b));
            count = omega (arith, zero (count_at x m k) (omega arith) (omega arith));
          }

      marked : keep k ≡ true → mark_at s (method_at x m) ≡ 1 → mark_at z (method_at x m) ≡ 1 → Lower x s z m k
      marked e p q =
          let six : k < 6 = omega (arith, few) in
          let below = (u.methods_under m (l, q)).1 in
          let fit = counts_le _ (rw (block_method x m l) at (method_formed.counts at_stock (rw (block_method x m l) p))) k six in
          let t = x.types in
          let a = method_at x m in
          record {
            rights = word_bits _ _ (word_lt s (2 * rights_at x m k))
                (λ b n. omega (arith, read_right s t a k h six b n, read_right z t a k h six b n, at_kept keep (stock_at s t a) (right k b six n) e, below (right k b six n)));
            count = omega (arith, fit, stock_word_read s t a k h six 1 (omega arith), read_count s t a k h six, read_count z t a k h six, at_kept keep (stock_at s t a) (count k six) e, below (count k six));
          }

      -- a method that is called in s is called in z
      pub lower : keep k ≡ true → (mark_at s (method_at x m) ≡ 1 → mark_at z (method_at x m) ≡ 1) → Lower x s z m k
      lower e called = elim (ℕ_discrete (mark_at s (method_at x m)) 1) [
        | yes p ↦ marked e p (called p)
        | no p ↦ blank (omega (arith, a_mark))
      ]

  -- each under the other
  module _ (r q : List ℕ) (v : WellFormed f r) (w : WellFormed f q) (keep keep' : ℕ → Bool)
      (high : Under permits (graph_of f) (masked (keeping keep) (sheet f r)) (sheet f q)) (low : Under permits (graph_of f) (masked (keeping keep') (sheet f q)) (sheet f r)) where
    called_up : (m : ℕ) → m < x.methods → mark_at r (method_at x m) ≡ 1 → mark_at q (method_at x m) ≡ 1
    called_up m l k = (low.methods_under m (l, k)).0.1

    called_down : (m : ℕ) → m < x.methods → mark_at q (method_at x m) ≡ 1 → mark_at r (method_at x m) ≡ 1
    called_down m l k = (high.methods_under m (l, k)).0.1

    same_called : (m : ℕ) → m < x.methods → mark_at r (method_at x m) ≡ mark_at q (method_at x m)
    same_called m l = elim (ℕ_discrete (mark_at r (method_at x m)) 1) [
      | yes p ↦ p ∙ sym (called_up m l p)
      | no p ↦ elim (ℕ_discrete (mark_at q (method_at x m)) 1) [
        | yes n ↦ absurd (p (called_down m l n))
        | no n ↦ omega (arith, a_mark r q v w keep high m l, a_mark q r w v keep' low m l)
      ]
    ]

    pub effects_stay : EffectsStay x r q
    effects_stay = record {
      called = same_called;
      exits = λ m e l h.
          let b = 10 * m + 1 + e in
          let p = block_exit x m l e h in
          rw (← p, ← exit_size x m l e h)
          (effect_settled x (limits f v.0).types r q b (formed r x b (v.2 b (omega arith))) (formed q x b (w.2 b (omega arith)))
          (simp (lt-ltb b (10 * x.methods) (omega arith), ne_eqb (b % 10) 0 (λ y. omega arith)))
          (rw p (λ k. let y = high.exits_under m e l (l, h, k) in (y.0.2, y.1)))
          (rw p (λ k. let y = low.exits_under m e l (l, h, k) in (y.0.2, y.1))));
      nodes = λ n l.
          let b = 10 * x.methods + n in
          let p = block_node x n in
          rw (← p, ← node_size x n)
          (effect_settled x (limits f v.0).types r q b (formed r x b (v.2 b (omega arith))) (formed q x b (w.2 b (omega arith)))
          (simp (le-ltb b (10 * x.methods) (omega arith)))
          (rw p (λ k. let y = high.nodes_under n l (l, k) in (y.0.1, y.1)))
          (rw p (λ k. let y = low.nodes_under n l (l, k) in (y.0.1, y.1))));
    }

    module _ (m k : ℕ) (l : m < x.methods) (h : k < x.types) where
      pub risen : keep k ≡ true → Lower x r q m k
      risen e = lower r q v w keep high m l k h e (called_up m l)

      pub fallen : keep' k ≡ true → Lower x q r m k
      fallen e = lower q r w v keep' low m l k h e (called_down m l)

  -- where effects stay and no method's stock falls, no word does
  module _ (r q : List ℕ) (E : EffectsStay x r q) (up : (m k : ℕ) → m < x.methods → k < x.types → Lower x r q m k) where
    in_method : (m v : ℕ) → m < x.methods → method_at x m ≤ v → v < method_at x m + stock_size x.types → sheet_word r v ≤ sheet_word q v
    in_method m v l a b = elim (ℕ_discrete v (method_at x m)) [
      | yes e ↦ rw e (le_of_eq (E.called m l))
      | no e ↦
          let i = v - method_at x m - 1 in
          let k = i / 2 in
          let h : k < x.types = omega arith in
          elim (ℕ_discrete (i % 2) 0) [
            | yes z ↦ let p : rights_at x m k ≡ v = omega arith in rw p at (within_le _ _ (up m k l h).rights)
            | no z ↦ let p : count_at x m k ≡ v = omega arith in rw p at (up m k l h).count
          ]
    ]

    pub no_fall : (v : ℕ) → v < sheet_words x → sheet_word r v ≤ sheet_word q v
    no_fall v n =
        let d = stands x v n in
        let b = d.0 in
        let from = d.2.from in
        let to = d.2.to in
        elim (dec_lt b (10 * x.methods)) [
          | yes h ↦ elim (ℕ_discrete (b % 10) 0) [
            | yes z ↦ in_method (b / 10) v (omega arith) (omega (arith, at_method x b h z)) (omega (arith, at_method x b h z, size_method x b h z))
            | no z ↦ le_of_eq (E.exits (b / 10) (b % 10 - 1) (omega arith) (omega arith) v (omega (arith, at_exit x b h z)) (omega (arith, at_exit x b h z, size_exit x b z)))
          ]
          | no h ↦
              let p = at_node x b (omega arith) in
              le_of_eq (E.nodes (b - 10 * x.methods) (omega (arith, d.1)) v (omega (arith, p)) (omega (arith, p, size_node x b (omega arith))))
        ]
