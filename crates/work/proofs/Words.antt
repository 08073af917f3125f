-- A sheet of bytes is its words, and every word stands in some block.
use Prim.Native.Nat.{ℕ, zero, suc, ◌+◌, ◌*◌, ◌/◌, ◌%◌, ◌≤◌, ◌<◌}
use mathlib.Core.Path.{◌≡◌, sym, ◌∙◌}
use mathlib.Core.List.{List}
use native.Mathlib.Decide.{dec_lt, ℕ_discrete}
use native.Mathlib.Nat.{zero-mul}
use native.Mathlib.Omega.{arith}
use lib.ListN.{length, get_or}
use lib.Seq.{ext_get_or}
use Rattle.words.specs.Bytes.{byte_at, word_at}
use Rattle.words.proofs.Read.{byte_lt, byte_is}
use Rattle.sheet_layout.specs.declared.Shape.{Shape}
use Rattle.sheet_layout.specs.Layout.{method_at, node_at, sheet_words, sheet_bytes, block_count, block_size, block_at}
use Rattle.sheet_layout.proofs.Blocks.{at_method, at_node, next, at_end}
use Rattle.sheet.specs.Read.{sheet_word, SameWords}

-- the block in which a word stands
pub record Stands (x : Shape) (v b : ℕ) : Type 0 where
  pub from : block_at x b ≤ v
  pub to : v < block_at x b + block_size x b

first_block : (x : Shape) → block_at x 0 ≡ 0
unfolding method_at node_at
first_block x = elim (dec_lt 0 x.methods) [
  | yes h ↦ at_method x 0 (omega arith) (omega arith) ∙ zero-mul (10 + 38 * x.types)
  | no h ↦
      let m : x.methods ≡ 0 = omega arith in
      at_node x 0 (omega arith) ∙ rw m (omega (arith, zero-mul (10 + 38 * x.types), zero-mul (1 + 4 * x.types)))
]

-- going down the blocks from n
stands_below : (x : Shape) (v n : ℕ) → v < block_at x n → (b : ℕ) × (b < n) × Stands x v b
stands_below x v zero h = absurd (omega (arith, first_block x))
stands_below x v (suc n) h = elim (dec_lt v (block_at x n)) [
  | yes l ↦ let d = stands_below x v n l in (d.0, omega (arith, d.1), d.2)
  | no l ↦ (n, omega arith, record { from = omega arith; to = omega (arith, next x n) })
]

pub stands : (x : Shape) (v : ℕ) → v < sheet_words x → (b : ℕ) × (b < block_count x) × Stands x v b
stands x v h = stands_below x v (block_count x) (omega (arith, at_end x))

-- equal words have equal bytes, low and high
both_bytes : (s r : List ℕ) (i : ℕ) → word_at s i ≡ word_at r i → (byte_at s i ≡ byte_at r i) × (byte_at s (i + 1) ≡ byte_at r (i + 1))
unfolding word_at
both_bytes s r i h = omega (arith, byte_lt s i, byte_lt s (i + 1), byte_lt r i, byte_lt r (i + 1))

same_byte : (s r : List ℕ) (i : ℕ) → sheet_word s (i / 2) ≡ sheet_word r (i / 2) → byte_at s i ≡ byte_at r i
same_byte s r i h =
    let e = both_bytes s r (2 * (i / 2)) h in
    elim (ℕ_discrete (i % 2) 0) [
      | yes z ↦ let q : 2 * (i / 2) ≡ i = omega arith in rw q at e.0
      | no z ↦ let q : 2 * (i / 2) + 1 ≡ i = omega arith in rw q at e.1
    ]

-- two sheets of bytes whose blocks have the same words are one
pub same_sheet : (x : Shape) (s r : List ℕ) → length s ≡ sheet_bytes x → length r ≡ sheet_bytes x
    → ((i : ℕ) → get_or s i 0 < 256) → ((i : ℕ) → get_or r i 0 < 256)
    → ((b : ℕ) → b < block_count x → SameWords s r (block_at x b) (block_size x b)) → s ≡ r
unfolding sheet_bytes
same_sheet x s r l k p q h =
    ext_get_or 0 s r (omega arith)
    (λ i u.
    let d = stands x (i / 2) (omega arith) in
    byte_is s i (p i) ∙ same_byte s r i (h d.0 d.1 (i / 2) d.2.from d.2.to) ∙ sym (byte_is r i (q i)))
