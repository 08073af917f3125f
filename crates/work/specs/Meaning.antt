-- What work out promises, over the file's program and the runs of it.
use Rattle.std.specs.Prelude.{ℕ, ◌≤◌, ◌<◌, ◌≡◌, ◌↔◌, List, length, get_or}
use Rattle.answer.specs.declared.Answer.{Answer}
use Rattle.answer.specs.declared.Answer.TheVariants.{Pass}
use Rattle.answer.specs.Number.{Says, SaysAs}
use Rattle.effect.specs.declared.Stock.{Stock}
use Rattle.effect.specs.Coordinate.{right, count, at}
use Rattle.model.specs.Rules.{Under}
use Rattle.model.specs.Stocks.{permits}
use Rattle.graph_tables.specs.Trailer.{tables_of}
use Rattle.graph_places.specs.Places.{overdrawn_at}
use Rattle.graph.specs.Judge.{judge_of}
use Rattle.graph_nodes.specs.Program.{program_of, Brings, Overdrawing}
use Rattle.sheet_layout.specs.Layout.{sheet_bytes}
use Rattle.rule_test.specs.Sheet.{shape, sheet, WellFormed, Holds, IsReached, stock_in}

-- The sheet r that is written.
pub record Worked (f r : List ℕ) : Type 0 where
  -- It has the right length, is of bytes, has no ill-formed block, and obeys the rules.
  pub well_formed : WellFormed f r
  pub bytes : (i : ℕ) → get_or r i 0 < 256
  pub obeys : (q : ℕ) → Holds f r q
  -- It is the greatest that obeys: fewest marks, and under equal marks the greatest effects and stocks.
  pub greatest : (u : List ℕ) → ((q : ℕ) → Holds f u q) → Under permits (program_of f).graph (sheet f u) (sheet f r)
  -- A node is called reached exactly if some run gets there;
  pub reached : (n : ℕ) → IsReached f r n ↔ ((h : Stock) × Brings f n h)
  -- each count is the smallest that any run brings, and a run brings it;
  pub smallest : (n : ℕ) → IsReached f r n → (k : ℕ) (l : k < 6)
      → ((h : Stock) → Brings f n h → at (count k l) (stock_in f r n) ≤ at (count k l) h) × ((h : Stock) × Brings f n h × (at (count k l) h ≡ at (count k l) (stock_in f r n)))
  -- a right is missing exactly if some run arrives without it.
  pub missing : (n : ℕ) → IsReached f r n → (k b : ℕ) (l : k < 6) (m : b < 16)
      → (at (right k b l m) (stock_in f r n) ≡ 0) ↔ ((h : Stock) × Brings f n h × (at (right k b l m) h ≡ 0))

-- The answer a, and the lent sheet: s before, r after.
pub data WorksOut (f s r : List ℕ) (a : Answer) : Type 0 where
  -- 1 to 9, 15, 17: the file is refused, and the sheet is as it was
  refused : (judge_of f ≡ Pass → ⊥) → r ≡ s → SaysAs a (judge_of f) → WorksOut f s r a
  -- 10: the sheet's length is wrong, and the sheet is as it was
  wrong_length : judge_of f ≡ Pass → (length s ≡ sheet_bytes (shape f) → ⊥) → r ≡ s → Says a 10 0 0 0 → WorksOut f s r a
  -- 13: the lowest node at which some run overdraws
  overdrawn : length s ≡ sheet_bytes (shape f) → Worked f r → (n : ℕ) → Overdrawing f n → ((m : ℕ) → m < n → Overdrawing f m → ⊥) → SaysAs a (overdrawn_at f (tables_of f) n) → WorksOut f s r a
  -- 0: no run overdraws
  passes : length s ≡ sheet_bytes (shape f) → Worked f r → ((n : ℕ) → Overdrawing f n → ⊥) → Says a 0 0 0 0 → WorksOut f s r a
