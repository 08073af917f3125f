-- What the judge's answer means: the table "What comes back", numbers 1 to 9, 15 and 17, and 0.
use Rattle.std.specs.Prelude.{ℕ, ◌<◌, ◌≡◌, true, ◌⊎◌, List, [], ◌∷◌, length, get_or, eqb}
use Rattle.words.specs.Lowest.{lowest}
use Rattle.answer.specs.declared.Answer.{Answer}
use Rattle.answer.specs.declared.Answer.TheVariants.{TooShort, BadCount, BadLength, BadEntry, BadNode, BadFlow, BadCall, BadCatch, BadOpening, BadParent, NoCallRow}
use Rattle.answer.specs.Number.{number_of, place_of, Says}
use Rattle.graph_tables.specs.declared.Tables.{Tables}
use Rattle.graph_tables.specs.Trailer.{tables_of}
use Rattle.graph_tables.specs.Fields.{node_line}
use Rattle.graph_refuse.specs.Bad.{count_bad, length_bad, entry_bad, node_bad, flow_bad, call_bad, parent_bad, catch_bad, uncalled, opening_bad}

-- "Given when": the refusal applies to a file whose trailer says t; one that names a node has its line
pub data Given (f : List ℕ) (t : Tables) : Answer → Type 0 where
  too_short : length f < 14 → Given f t TooShort
  bad_count : {i : ℕ} → i < 6 → count_bad f i ≡ true → Given f t (BadCount i)
  bad_length : length_bad f t ≡ true → Given f t BadLength
  bad_entry : {k : ℕ} → k < t.methods → entry_bad f t k ≡ true → Given f t (BadEntry k)
  bad_node : {k l : ℕ} → k < t.nodes → node_bad f t k ≡ true → l ≡ node_line f t k → Given f t (BadNode k l)
  bad_flow : {k : ℕ} → k < t.flows → flow_bad f t k ≡ true → Given f t (BadFlow k)
  bad_call : {k : ℕ} → k < t.calls → call_bad f t k ≡ true → Given f t (BadCall k)
  bad_parent : {e : ℕ} → e < 8 → parent_bad f t e ≡ true → Given f t (BadParent e)
  bad_catch : {k : ℕ} → k < t.catches → catch_bad f t k ≡ true → Given f t (BadCatch k)
  no_call_row : {n l : ℕ} → n < t.nodes → uncalled f t n ≡ true → l ≡ node_line f t n → Given f t (NoCallRow n l)
  bad_opening : {k : ℕ} → k < t.types → opening_bad f t k ≡ true → Given f t (BadOpening k)

-- the order of the refusals, by their numbers, and an answer's turn in it
abbrev pub order : List ℕ
order = 1 ∷ 2 ∷ 3 ∷ 4 ∷ 5 ∷ 6 ∷ 7 ∷ 15 ∷ 8 ∷ 17 ∷ 9 ∷ []

abbrev pub turn_of : Answer → ℕ
turn_of a = lowest (λ i. eqb (get_or order i 0) (number_of a)) 11

-- "The first that applies, in this order; within a table the lowest row."
abbrev pub Before : Answer → Answer → Type 0
Before b a = (turn_of b < turn_of a) ⊎ ((turn_of b ≡ turn_of a) × (place_of b < place_of a))

pub data Judges (f : List ℕ) (a : Answer) : Type 0 where
  refuses : Given f (tables_of f) a → ((b : Answer) → Before b a → Given f (tables_of f) b → ⊥) → Judges f a
  passes : ((b : Answer) → Given f (tables_of f) b → ⊥) → Says a 0 0 0 0 → Judges f a
