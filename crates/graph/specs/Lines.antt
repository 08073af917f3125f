-- "Two graphs that differ only in lines": files that are the same but for the two bytes of each node's line.
use Rattle.std.specs.Prelude.{ℕ, ◌+◌, ◌*◌, ◌≤◌, ◌<◌, ◌≡◌, ◌⊎◌, List, length}
use Rattle.words.specs.Bytes.{byte_at}
use Rattle.answer.specs.Number.{number_of}
use Rattle.graph_tables.specs.Trailer.{tables_of}
use Rattle.graph.specs.Judge.{judge_of}

-- the byte p is one of the last two of some node's eight
abbrev pub OfLine : List ℕ → ℕ → Type 0
OfLine f p = (n : ℕ) × (n < (tables_of f).nodes) × ((tables_of f).nodesat + 8 * n + 6 ≤ p) × (p < (tables_of f).nodesat + 8 * n + 8)

pub record SameButLines (f g : List ℕ) : Type 0 where
  pub one_length : length f ≡ length g
  -- f is not refused 1 to 3: the nodes are where its trailer says, and no line stands in the trailer
  pub past_length : (number_of (judge_of f) ≡ 0) ⊎ (3 < number_of (judge_of f))
  pub same_bytes : (p : ℕ) → (OfLine f p → ⊥) → byte_at f p ≡ byte_at g p
