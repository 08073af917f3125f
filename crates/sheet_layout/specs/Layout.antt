-- Where the blocks of a sheet stand, in words of two bytes.
use Rattle.std.specs.Prelude.{ℕ, ◌+◌, ◌-◌, ◌*◌, ◌/◌, ◌%◌, ◌≤◌, Bool, cond, ◌&&◌, List, replicate, ltb, eqb}
use Rattle.sheet_layout.specs.declared.Shape.{Shape}

-- the limits of M, N and T in the graph file
pub record Within (x : Shape) : Type 0 where
  pub few_methods : x.methods ≤ 64
  pub few_nodes : x.nodes ≤ 512
  pub few_types : x.types ≤ 6

-- a mark with a stock (rights, count per type), and a mark with an effect (keep-in, keep-max, cap, drop per type)
abbrev pub stock_size : ℕ → ℕ
stock_size t = 1 + 2 * t

abbrev pub effect_size : ℕ → ℕ
effect_size t = 1 + 4 * t

-- "For each method: called mark, its stock .., then nine exits": 1 + 2T words and nine times 1 + 4T
unfoldable pub method_at : Shape → ℕ → ℕ
method_at x m = m * (10 + 38 * x.types)

unfoldable pub exit_at : Shape → ℕ → ℕ → ℕ
exit_at x m e = method_at x m + stock_size x.types + e * effect_size x.types

-- "Then for each node a mark and the effect since its method's entry."
unfoldable pub node_at : Shape → ℕ → ℕ
node_at x n = method_at x x.methods + n * effect_size x.types

-- "Words of two bytes, M(10 + 38T) + N(1 + 4T) of them"
unfoldable pub sheet_words : Shape → ℕ
sheet_words x = x.methods * (10 + 38 * x.types) + x.nodes * (1 + 4 * x.types)

unfoldable pub sheet_bytes : Shape → ℕ
sheet_bytes x = 2 * sheet_words x

-- "at most 28,032 (56,064 bytes)"
unfoldable pub longest_sheet : List ℕ
longest_sheet = replicate 56064 0

-- "A block is a method's mark with its stock, one exit or one node", in the order of the sheet: ten of each method, then the nodes
abbrev pub block_count : Shape → ℕ
block_count x = 10 * x.methods + x.nodes

abbrev pub is_stock : Shape → ℕ → Bool
is_stock x b = ltb b (10 * x.methods) && eqb (b % 10) 0

unfoldable pub block_size : Shape → ℕ → ℕ
block_size x b = cond (is_stock x b) (stock_size x.types) (effect_size x.types)

-- the first word of block b
unfoldable pub block_at : Shape → ℕ → ℕ
block_at x b =
    cond (ltb b (10 * x.methods))
    (cond (eqb (b % 10) 0) (method_at x (b / 10)) (exit_at x (b / 10) (b % 10 - 1)))
    (node_at x (b - 10 * x.methods))
