-- What the queue engine promises: what work out does, and of the lent area that it holds zeros afterwards, or what it held.
use Rattle.std.specs.Prelude.{ℕ, ◌≡◌, List, length, replicate}
use Rattle.answer.specs.declared.Answer.{Answer}
use Rattle.answer.specs.declared.Answer.TheVariants.{Pass}
use Rattle.answer.specs.Number.{Says, SaysAs}
use Rattle.graph.specs.Judge.{judge_of}
use Rattle.sheet_layout.specs.Layout.{sheet_bytes}
use Rattle.rule_test.specs.Sheet.{shape}
use Rattle.work.specs.Meaning.{WorksOut}

-- The answer a, the lent sheet, s before and r after, and the lent area, b before and c after.
pub data WorksQueued (f s r b c : List ℕ) (a : Answer) : Type 0 where
  -- 1 to 9, 15, 17: the file is refused; both are as they were
  refused : (judge_of f ≡ Pass → ⊥) → r ≡ s → c ≡ b → SaysAs a (judge_of f) → WorksQueued f s r b c a
  -- 10: the sheet's length is wrong; both are as they were
  wrong_length : judge_of f ≡ Pass → (length s ≡ sheet_bytes (shape f) → ⊥) → r ≡ s → c ≡ b → Says a 10 0 0 0 → WorksQueued f s r b c a
  -- 23, after 10: the area has another length than 4,096; both are as they were
  wrong_area : judge_of f ≡ Pass → length s ≡ sheet_bytes (shape f) → (length b ≡ 4096 → ⊥) → r ≡ s → c ≡ b → Says a 23 0 0 0 → WorksQueued f s r b c a
  -- 0 and 13: the sheet is what work out writes, with its verdict, and the area holds zeros
  worked : judge_of f ≡ Pass → length s ≡ sheet_bytes (shape f) → length b ≡ 4096 → WorksOut f s r a → c ≡ replicate 4096 0 → WorksQueued f s r b c a
