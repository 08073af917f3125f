-- The sheet of a file, what the rules say of it, and what it says of a node.
use Rattle.std.specs.Prelude.{ℕ, ◌<◌, ◌≡◌, false, List, length}
use Rattle.answer.specs.declared.Answer.TheVariants.{Pass}
use Rattle.effect.specs.declared.Stock.{Stock}
use Rattle.effect.specs.Coordinate.{type_of}
use Rattle.model.specs.Rules.{Sheet, Rule, RuleAt, Reached, stock_of_node}
use Rattle.model.specs.Stocks.{permits}
use Rattle.model.specs.Program.{steps}
use Rattle.graph_tables.specs.Trailer.{tables_of}
use Rattle.graph.specs.Judge.{judge_of}
use Rattle.graph.specs.Judgement.{shape_of}
use Rattle.graph_nodes.specs.Program.{program_of}
use Rattle.sheet_layout.specs.declared.Shape.{Shape}
use Rattle.sheet_layout.specs.Layout.{block_count, sheet_bytes}
use Rattle.sheet_formed.specs.Ill.{ill_block}
use Rattle.sheet_formed.specs.Sheet.{sheet_in}

-- the shape of the sheet of a file
abbrev pub shape : List ℕ → Shape
shape f = shape_of (tables_of f)

-- The sheet of the file f that the bytes s say.
module _ (f s : List ℕ) where
  abbrev pub sheet : Sheet permits
  sheet = sheet_in (shape f) s

  -- no test refuses the file; the sheet has the length and no ill-formed block
  abbrev pub WellFormed : Type 0
  WellFormed = (judge_of f ≡ Pass) × (length s ≡ sheet_bytes (shape f)) × ((b : ℕ) → b < block_count (shape f) → ill_block s (shape f) b ≡ false)

  -- rule r is obeyed
  abbrev pub Holds : ℕ → Type 0
  Holds r = Rule permits (program_of f).graph (steps (program_of f)) (program_of f).opening sheet r

  -- rule r is obeyed at the type k, where the blocks have their marks
  abbrev pub HoldsAt : ℕ → ℕ → Type 0
  HoldsAt r k = RuleAt permits (program_of f).graph (steps (program_of f)) (program_of f).opening sheet (λ i. type_of i ≡ k) r

  -- the node is reached, and its stock
  abbrev pub IsReached : ℕ → Type 0
  IsReached n = Reached permits (program_of f).graph sheet n

  abbrev pub stock_in : ℕ → Stock
  stock_in n = stock_of_node permits (program_of f).graph sheet n
