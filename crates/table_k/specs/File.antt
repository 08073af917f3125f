-- A graph file given by its tables.
use Rattle.std.specs.Prelude.{ℕ, ◌+◌, ◌*◌, List, [], ◌∷◌, ◌++◌, length, replicate}
use Rattle.words.specs.Write.{word_bytes}

-- "8 bytes": method, kind, number, count (one byte each), rights, "the last two the source line"
pub data Node : Type 0 where
  node : (method kind number count rights line : ℕ) → Node

-- the rows of the tables
pub record File : Type 0 where
  -- entry node
  pub methods : List ℕ
  pub nodes : List Node
  -- from, to
  pub flow : List (ℕ × ℕ)
  -- node, method
  pub calls : List (ℕ × ℕ)
  -- each kind's parent, a byte
  pub parents : List ℕ
  -- from, exception, to
  pub catches : List (ℕ × ℕ × ℕ)
  -- rights, count
  pub opening : List (ℕ × ℕ)

-- no kind has a parent, as in document 01
abbrev pub no_parents : List ℕ
no_parents = replicate 8 255

-- "Numbers are little-endian, two bytes unless said."
unfoldable pub words : List ℕ → List ℕ
words [] = []
words (v ∷ r) = word_bytes v ++ words r

unfoldable pub node_rows : List Node → List ℕ
node_rows [] = []
node_rows (node m k i c p l ∷ r) = m ∷ k ∷ i ∷ c ∷ words (p ∷ l ∷ []) ++ node_rows r

-- the fields of rows of two and of three, row by row
unfoldable pub pairs : List (ℕ × ℕ) → List ℕ
pairs [] = []
pairs (r ∷ s) = r.0 ∷ r.1 ∷ pairs s

unfoldable pub triples : List (ℕ × ℕ × ℕ) → List ℕ
triples [] = []
triples (r ∷ s) = r.0 ∷ r.1 ∷ r.2 ∷ triples s

-- "the distance back from the trailer's start to byte 0, which is 2M + 6N + 4F + 4C + 6X + 4T", and 8 more for the parents
-- and 2N for the lines
unfoldable pub distance : File → ℕ
distance g =
    2 * length g.methods + 8 * length g.nodes + 4 * length g.flow + 4 * length g.calls + 8 + 6 * length g.catches + 4 * length g.opening

-- The tables "stand one after the other from byte 0, then a trailer": M, N, F, C, X, T and the distance
unfoldable pub file_bytes : File → List ℕ
file_bytes g =
    words g.methods
    ++ node_rows g.nodes
    ++ words (pairs g.flow)
    ++ words (pairs g.calls)
    ++ g.parents
    ++ words (triples g.catches)
    ++ words (pairs g.opening)
    ++ words
    (length g.methods
    ∷ length g.nodes
    ∷ length g.flow
    ∷ length g.calls
    ∷ length g.catches
    ∷ length g.opening
    ∷ distance g
    ∷ [])
