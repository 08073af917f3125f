-- The profiles, over the rows of a graph file: which nodes break them, and what is answered.
use Rattle.std.specs.Prelude.{ℕ, ◌≤◌, ◌<◌, ◌≡◌, List}
use Rattle.effect.specs.Coordinate.{bit}
use Rattle.answer.specs.declared.Answer.{Answer}
use Rattle.answer.specs.declared.Answer.TheVariants.{Pass}
use Rattle.answer.specs.Number.{Says, SaysAs}
use Rattle.graph_tables.specs.declared.Tables.{Tables}
use Rattle.graph_tables.specs.Trailer.{tables_of}
use Rattle.graph_tables.specs.Kinds.{grant_kind, draw_kind}
use Rattle.graph_tables.specs.Fields.{entry_of, node_method, node_kind, node_number, node_count, node_rights}
use Rattle.graph_places.specs.Places.{unfit_at}
use Rattle.graph.specs.Judge.{judge_of}
use Rattle.graph.specs.Graph.{FlowRow, CallRow, CatchRow, OfKind}

module _ (f : List ℕ) where
  abbrev t : Tables
  t = tables_of f

  -- The node g is "a grant of the same type whose rights contain the draw's and whose count is exactly 1", for the draw d.
  pub record Asks (g d : ℕ) : Type 0 where
    pub is_grant : node_kind f t g ≡ grant_kind
    pub same_type : node_number f t g ≡ node_number f t d
    pub rights : (b : ℕ) → bit b (node_rights f t d) ≤ bit b (node_rights f t g)
    pub once : node_count f t g ≡ 1

  -- One-shot: "every flow row into a draw leaves" such a grant, "and no draw is an entry node or the target of a catch row". So a draw
  -- breaks it
  pub data BreaksOneShot (d : ℕ) : Type 0 where
    -- by a flow row into it that leaves anything else,
    by_flow : OfKind f t draw_kind d → (g : ℕ) → FlowRow f t g d → (Asks g d → ⊥) → BreaksOneShot d
    -- by a method whose entry node it is,
    by_entry : OfKind f t draw_kind d → (m : ℕ) → m < t.methods → entry_of f m ≡ d → BreaksOneShot d
    -- or by a catch row whose target it is, whether or not the row ever applies.
    by_catch : OfKind f t draw_kind d → (n e : ℕ) → CatchRow f t n e d → BreaksOneShot d

  -- Session: "every grant stands in method 0 with count 255, and no call row names method 0". So a node breaks it
  pub data BreaksSession (n : ℕ) : Type 0 where
    -- as a grant that does not stand so,
    by_grant : OfKind f t grant_kind n → ((node_method f t n ≡ 0) × (node_count f t n ≡ 255) → ⊥) → BreaksSession n
    -- or as a call, by a call row that names method 0.
    by_call : CallRow f t n 0 → BreaksSession n

  -- For a profile, where `Breaks` says which nodes break it, the answer a.
  pub data Profiled (Breaks : ℕ → Type 0) (a : Answer) : Type 0 where
    -- 1 to 9, 15, 17: the file is refused
    refused : (judge_of f ≡ Pass → ⊥) → SaysAs a (judge_of f) → Profiled Breaks a
    -- 14: the lowest node that breaks the profile, with its line
    unfit : judge_of f ≡ Pass → (n : ℕ) → Breaks n → ((m : ℕ) → m < n → Breaks m → ⊥) → SaysAs a (unfit_at f t n) → Profiled Breaks a
    -- 0: no node breaks it
    fits : judge_of f ≡ Pass → ((n : ℕ) → Breaks n → ⊥) → Says a 0 0 0 0 → Profiled Breaks a
