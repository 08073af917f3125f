-- Two files that are the same but for the opening stock, and how their opening stocks differ.
use Rattle.std.specs.Prelude.{ℕ, ◌≤◌, ◌<◌, ◌≡◌, List, length}
use Rattle.words.specs.Bytes.{byte_at}
use Rattle.effect.specs.Coordinate.{RightsWithin}
use Rattle.graph_tables.specs.Trailer.{tables_of}
use Rattle.graph_tables.specs.Fields.{opening_rights, opening_count}

-- the byte p stands in the opening table, which is where the trailer of f says
abbrev pub OfOpening : List ℕ → ℕ → Type 0
OfOpening f p = ((tables_of f).openingat ≤ p) × (p < (tables_of f).end)

-- the same but for the opening table: one length, and the same bytes outside it
pub record ButOpening (f g : List ℕ) : Type 0 where
  pub one_length : length f ≡ length g
  pub same_bytes : (p : ℕ) → (OfOpening f p → ⊥) → byte_at f p ≡ byte_at g p

-- what a file opens with of the type k
abbrev pub rights_of : List ℕ → ℕ → ℕ
rights_of f k = opening_rights f (tables_of f) k

abbrev pub count_of : List ℕ → ℕ → ℕ
count_of f k = opening_count f (tables_of f) k

-- "with the opening stock raised, in rights or counts": for each type g opens with every right that f opens with, and with a count that is no
-- smaller; 255 is endless, and the largest
pub record Raised (f g : List ℕ) : Type 0 where
  pub but_opening : ButOpening f g
  pub rights : (k : ℕ) → k < (tables_of f).types → RightsWithin (rights_of f k) (rights_of g k)
  pub count : (k : ℕ) → k < (tables_of f).types → count_of f k ≤ count_of g k

-- "a change to one type's opening stock": of every type other than j the opening stock is the same; that of j may be anything
pub record OnlyType (j : ℕ) (f g : List ℕ) : Type 0 where
  pub but_opening : ButOpening f g
  pub rights : (k : ℕ) → k < (tables_of f).types → (k ≡ j → ⊥) → rights_of f k ≡ rights_of g k
  pub count : (k : ℕ) → k < (tables_of f).types → (k ≡ j → ⊥) → count_of f k ≡ count_of g k
