-- The listing over runs: what its lines say, with no word of a sheet.
use Rattle.std.specs.Prelude.{ℕ, ◌≤◌, ◌<◌, ◌≡◌, ◌↔◌, List, [], ◌++◌}
use Rattle.words_digits.specs.Text.{joined}
use Rattle.answer.specs.declared.Answer.{Answer}
use Rattle.effect_one.specs.declared.Held.{Held}
use Rattle.effect.specs.declared.Stock.{Stock}
use Rattle.effect.specs.Coordinate.{bit, right, count, at}
use Rattle.graph_tables.specs.Trailer.{tables_of}
use Rattle.listing_first.specs.Listing.{first_line, stock_line}
use Rattle.graph_nodes.specs.Program.{Brings}

module _ (f : List ℕ) where
  -- of type k at node n: the count is the smallest that any run brings, and a right is missing exactly if some run arrives without it
  pub record Least (n k : ℕ) (held : Held) : Type 0 where
    pub smallest : (l : k < 6) → ((h : Stock) → Brings f n h → held.count ≤ at (count k l) h) × ((h : Stock) × Brings f n h × (at (count k l) h ≡ held.count))
    pub missing : (b : ℕ) (l : k < 6) (m : b < 16) → (bit b held.rights ≡ 0) ↔ ((h : Stock) × Brings f n h × (at (right k b l m) h ≡ 0))

  -- the lines of node n
  pub data Lines (n : ℕ) : List ℕ → Type 0 where
    -- some run arrives: one line for each type
    arrives : {h : Stock} → Brings f n h → (held : ℕ → Held) → ((k : ℕ) → k < (tables_of f).types → Least n k (held k)) → Lines n (joined (λ k. stock_line n k (held k)) (tables_of f).types)
    -- no run arrives: no line
    never : ((h : Stock) → Brings f n h → ⊥) → Lines n []

  -- the text: the first line, and then the lines of each node, ascending
  pub record OverRuns (a : Answer) (text : List ℕ) : Type 0 where
    pub lines : ℕ → List ℕ
    pub tell : (n : ℕ) → n < (tables_of f).nodes → Lines n (lines n)
    pub is : text ≡ first_line a ++ joined lines (tables_of f).nodes
