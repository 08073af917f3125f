-- What the check of many sheets answers, and what it leaves in the lent row.
use Rattle.std.specs.Prelude.{ℕ, ◌+◌, ◌*◌, ◌<◌, ◌≡◌, List, length, get_or, take, drop}
use Rattle.answer.specs.declared.Answer.{Answer}
use Rattle.answer.specs.declared.Answer.TheVariants.{Pass}
use Rattle.answer.specs.Number.{number_of, place_of, Says, SaysAs}
use Rattle.graph.specs.Judge.{judge_of}
use Rattle.graph_nodes.specs.Program.{Overdrawing}
use Rattle.sheet_layout.specs.Layout.{sheet_bytes}
use Rattle.rule_test.specs.Sheet.{shape}
use Rattle.accept_row.specs.Counts.{Counts}
use Rattle.accept.specs.Check.{check_of}

-- sheet i of those that stand "end to end"
abbrev pub sheet_at : List ℕ → List ℕ → ℕ → List ℕ
sheet_at f s i = take (sheet_bytes (shape f)) (drop (i * sheet_bytes (shape f)) s)

-- "the answer number and place for each sheet, equal to what check answers for that sheet alone"
pub record Tells (f s w : List ℕ) (i : ℕ) : Type 0 where
  pub number_is : get_or w (2 * i) 0 ≡ number_of (check_of f (sheet_at f s i))
  pub place_is : get_or w (2 * i + 1) 0 ≡ place_of (check_of f (sheet_at f s i))

-- the row, which was w and is w', tells of the first k sheets
pub record Told (f s w w' : List ℕ) (k : ℕ) : Type 0 where
  pub one_length : length w' ≡ length w
  pub each : (i : ℕ) → i < k → Tells f s w' i

-- Of the file f, the sheets s and the lent row, which was w and is w', the answer a.
pub data ChecksMany (f s w w' : List ℕ) (a : Answer) : Type 0 where
  -- 1 to 9, 15, 17: the file is refused; the row is as it was
  refused : (judge_of f ≡ Pass → ⊥) → w' ≡ w → SaysAs a (judge_of f) → ChecksMany f s w w' a
  -- 24: "sheets not 1 to 20 whole ones or a row not of two numbers a sheet"; the row is as it was
  miscounted : judge_of f ≡ Pass → ((k : ℕ) → Counts (sheet_bytes (shape f)) (length s) (length w) k → ⊥) → w' ≡ w → Says a 24 0 0 0 → ChecksMany f s w w' a
  -- 0: the row tells of every sheet
  checked : judge_of f ≡ Pass → (k : ℕ) → Counts (sheet_bytes (shape f)) (length s) (length w) k → Told f s w w' k → Says a 0 0 0 0 → ChecksMany f s w w' a

-- Where the answer is 0, a sheet whose number in the row w is 0 says that no run of that graph overdraws.
abbrev pub SafeRow : List ℕ → List ℕ → Answer → Type 0
SafeRow f w a = number_of a ≡ 0 → (i : ℕ) → 2 * i < length w → get_or w (2 * i) 0 ≡ 0 → (n : ℕ) → Overdrawing f n → ⊥
