-- What check's answer means, in the words of the rules: the sheet is accepted exactly if it is well formed, obeys the rules and covers
-- every draw that it calls reached.
use Rattle.std.specs.Prelude.{ℕ, ◌<◌, ◌≡◌, true, false, List, length}
use Rattle.answer.specs.declared.Answer.{Answer}
use Rattle.answer.specs.declared.Answer.TheVariants.{Pass}
use Rattle.answer.specs.Number.{Says, SaysAs}
use Rattle.effect.specs.Meaning.{LowestFailing}
use Rattle.model.specs.Program.{doings}
use Rattle.graph_tables.specs.Trailer.{tables_of}
use Rattle.graph_places.specs.Places.{overdrawn_at}
use Rattle.graph.specs.Judge.{judge_of}
use Rattle.graph_nodes.specs.Program.{program_of}
use Rattle.sheet_layout.specs.Layout.{block_count, block_at, sheet_bytes}
use Rattle.sheet_formed.specs.Ill.{ill_block}
use Rattle.rule_test.specs.Sheet.{shape, WellFormed, Holds, HoldsAt, IsReached, stock_in}

-- if the node is a draw, its stock covers it
abbrev pub IsCovered : List ℕ → List ℕ → ℕ → Type 0
IsCovered f s n = (doings (program_of f)).Covers n (stock_in f s n)

-- Of the file f and the sheet s, the answer a.
pub data Checks (f s : List ℕ) (a : Answer) : Type 0 where
  -- 1 to 9, 15, 17: the file is refused
  refused : (judge_of f ≡ Pass → ⊥) → SaysAs a (judge_of f) → Checks f s a
  -- 10: the sheet's length is wrong
  wrong_length : judge_of f ≡ Pass → (length s ≡ sheet_bytes (shape f) → ⊥) → Says a 10 0 0 0 → Checks f s a
  -- 11: the lowest ill-formed block, by its first word
  ill_formed : judge_of f ≡ Pass → length s ≡ sheet_bytes (shape f) → (b : ℕ) → b < block_count (shape f) → ill_block s (shape f) b ≡ true
      → ((c : ℕ) → c < b → ill_block s (shape f) c ≡ false) → Says a 11 0 (block_at (shape f) b) 0 → Checks f s a
  -- 12: the lowest rule that is broken, and the lowest type that fails in any place where it is; a block without its mark fails in no type, so
  -- it is "6 when marks are all that is missing"
  broken : WellFormed f s → (r k : ℕ) → ((q : ℕ) → q < r → Holds f s q) → (Holds f s r → ⊥) → LowestFailing (HoldsAt f s r) k → Says a 12 k r 0 → Checks f s a
  -- 13: the lowest reached node whose draw is not covered
  overdrawn : WellFormed f s → ((r : ℕ) → Holds f s r) → (n : ℕ) → IsReached f s n → (IsCovered f s n → ⊥) → ((m : ℕ) → m < n → IsReached f s m → IsCovered f s m) → SaysAs a (overdrawn_at f (tables_of f) n) → Checks f s a
  -- 0: accepted
  accepted : WellFormed f s → ((r : ℕ) → Holds f s r) → ((n : ℕ) → IsReached f s n → IsCovered f s n) → Says a 0 0 0 0 → Checks f s a
