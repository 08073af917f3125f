-- The words of a block are written into a good sheet: it stays good if the block does, and is lower if the block is.
use Prim.Native.Nat.{ℕ, ◌*◌, ◌<◌}
use mathlib.Core.Path.{◌≡◌, sym, subst, ◌∙◌}
use mathlib.Core.Bool.{false}
use mathlib.Core.List.{List}
use native.Mathlib.Decide.{ℕ_discrete}
use native.Mathlib.Omega.{arith}
use Rattle.words.proofs.Lowest.{lowest_none, is_lowest}
use Rattle.answer.specs.declared.Answer.TheVariants.{Pass}
use Rattle.graph.specs.Judge.{judge_of}
use Rattle.sheet_layout.specs.Layout.{block_count, block_size, block_at}
use Rattle.words.specs.Write.{splice, bytes_of}
use Rattle.words.proofs.Splice.{written_length}
use Rattle.sheet.specs.Read.{SameWords}
use Rattle.sheet.proofs.Potential.{block_fits, other_block, sheet_falls}
use Rattle.sheet_formed.specs.Ill.{ill_block}
use Rattle.sheet_formed.proofs.Judged.{ill_same}
use Rattle.engine_lower.proofs.Good.{rank_of, height, Good}
use Rattle.engine_lower.proofs.Numbers.{shape}
use Rattle.engine_lower.proofs.Rank.{rank_same}
use Rattle.words.proofs.Bytes.{splice_bytes, words_bytes}
use Rattle.engine_lower.proofs.Hits.{BlockHit, hit_same, attained_hits, hits_attained}

-- what holds of the block b, and of the others, holds of all
at_all : (P : ℕ → Type 0) (b : ℕ) → P b → ((c : ℕ) → (c ≡ b → ⊥) → P c) → (c : ℕ) → P c
at_all P b p q c = elim (ℕ_discrete c b) [
  | yes e ↦ subst P (sym e) p
  | no e ↦ q c e
]

module _ (f : List ℕ) (pass : judge_of f ≡ Pass) (s : List ℕ) (G : Good f pass s) (b : ℕ) (l : b < block_count (shape f)) (g : ℕ → ℕ) where
  -- the sheet with the words g in the block b
  abbrev pub put : List ℕ
  put = splice s (2 * block_at (shape f) b) (bytes_of g (block_size (shape f) b))

  others : (c : ℕ) → (c ≡ b → ⊥) → SameWords put s (block_at (shape f) c) (block_size (shape f) c)
  others = other_block (shape f) s G.long b l g

  pub put_good : ((k : ℕ) → k < block_size (shape f) b → g k < 65536) → ill_block put (shape f) b ≡ false → BlockHit f pass put b → Good f pass put
  put_good w i h =
      record {
        long = written_length s (block_at (shape f) b) g (block_size (shape f) b) (block_fits (shape f) s G.long b l g) ∙ G.long;
        bytes = splice_bytes s (2 * block_at (shape f) b) (bytes_of g (block_size (shape f) b)) G.bytes (words_bytes g (block_size (shape f) b) w);
        whole = lowest_none (ill_block put (shape f)) (block_count (shape f))
            (at_all (λ c. c < block_count (shape f) → ill_block put (shape f) c ≡ false) b (λ u. i)
            (λ c ne u. ill_same put s (shape f) c (others c ne) ∙ (is_lowest (ill_block s (shape f)) (block_count (shape f))).before c (omega (arith, G.whole))));
        attained = hits_attained f pass put
            (at_all (BlockHit f pass put) b h
            (λ c ne. hit_same f pass s put c (λ v p q. sym (others c ne v p q)) (attained_hits f pass s G.attained c)));
      }

  pub put_falls : rank_of (shape f) b put < rank_of (shape f) b s → height (shape f) put < height (shape f) s
  unfolding height
  put_falls d = sheet_falls (rank_of (shape f)) (shape f) (rank_same (shape f)) s G.long b l g d
