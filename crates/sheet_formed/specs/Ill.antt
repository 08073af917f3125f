-- Which blocks of a sheet are ill formed.
use Rattle.std.specs.Prelude.{ℕ, ◌+◌, Bool, true, cond, not, List, get_or, ltb, leb, eqb}
use Rattle.words.specs.Lowest.{lowest}
use Rattle.sheet_layout.specs.declared.Shape.{Shape}
use Rattle.sheet_layout.specs.Layout.{is_stock, block_count, block_size, block_at}
use Rattle.effect.specs.declared.Stock.{Stock}
use Rattle.effect.specs.Six.{all_six}
use Rattle.effect.specs.Whole.{normal_of}
use Rattle.sheet.specs.Read.{sheet_word, mark_at, stock_at, effect_at}

-- word k after w is not 0, and one of the n words from w on is not
abbrev pub not_zero : List ℕ → ℕ → ℕ → Bool
not_zero s w k = not (eqb (sheet_word s (w + k)) 0)

unfoldable pub some_word : List ℕ → ℕ → ℕ → Bool
some_word s w n = ltb (lowest (not_zero s w) n) n

-- no count is above 255
unfoldable pub counts_fit : Stock → Bool
counts_fit x = all_six (λ k. leb (get_or x.counts k 0) 255)

-- what a marked block may hold: a stock whose counts fit, or a normal effect, whose caps are at most 255
abbrev pub fits : List ℕ → ℕ → ℕ → Bool → Bool
fits s t w stock = cond stock (counts_fit (stock_at s t w)) (normal_of (effect_at s t w))

-- "It is ill formed if a mark is not 0 or 1, an unmarked block has a word not 0, or a marked one a count or cap above
-- 255 or an effect not normal."
abbrev pub ill_by : ℕ → Bool → Bool → Bool
ill_by mark some fit = cond (eqb mark 0) some (cond (eqb mark 1) (not fit) true)

unfoldable pub ill_block : List ℕ → Shape → ℕ → Bool
ill_block s x b =
    ill_by (mark_at s (block_at x b)) (some_word s (block_at x b) (block_size x b)) (fits s x.types (block_at x b) (is_stock x b))

-- the lowest ill-formed block, and the number of blocks where there is none
abbrev pub first_ill : List ℕ → Shape → ℕ
first_ill s x = lowest (ill_block s x) (block_count x)
