-- The least key of what the rows ask: eight times the lowest rule that is broken and, behind it, the lowest type that fails in any place where
-- that rule is broken, 6 where marks are all that is missing there.
use Rattle.std.specs.Prelude.{ℕ, ◌+◌, ◌*◌, min, Bool, true, false, cond, List, eqb}
use Rattle.std.specs.declared.option.Option.{Option}
use Rattle.std.specs.declared.option.Option.TheVariants.{None, Some}
use Rattle.effect.specs.Whole.{fails_of, stock_fails_of}
use Rattle.graph_tables.specs.declared.Tables.{Tables}
use Rattle.sheet_layout.specs.declared.Shape.{Shape}
use Rattle.sheet.specs.Read.{stock_at, effect_at, marked}
use Rattle.rule_ask.specs.Walk.{Ask, of_effect, of_stock, rule_of, block_of, sheet_walk}

-- the lowest type at which what stands in the block is not at most what is asked, or 6
abbrev pub fails_in : Shape → List ℕ → Ask → ℕ
fails_in x s (of_effect r w e) = fails_of (effect_at s x.types w) e
fails_in x s (of_stock r w h) = stock_fails_of (stock_at s x.types w) h

-- the key of what is met: above that of every rule
abbrev pub no_key : ℕ
no_key = 88

-- a block without its mark is not compared
abbrev pub key_if : Bool → ℕ → ℕ → ℕ
key_if true r k = cond (eqb k 6) no_key (8 * r + k)
key_if false r k = 8 * r + 6

-- of a block by the rule r, from the type at which it fails, where it has its mark
abbrev pub key_of : ℕ → Option ℕ → ℕ
key_of r None = 8 * r + 6
key_of r (Some k) = key_if true r k

abbrev pub key_by : Shape → List ℕ → Ask → ℕ
key_by x s a = key_if (marked s (block_of a)) (rule_of a) (fails_in x s a)

unfoldable pub lessened : Shape → List ℕ → Ask → ℕ → ℕ
lessened x s a least = min least (key_by x s a)

-- of everything that the rows ask of the sheet s
unfoldable pub least_key : List ℕ → Tables → Shape → List ℕ → ℕ
least_key f t x s = sheet_walk f t x (λ z. s) (lessened x s) false no_key
