-- What is written into the sheet: a marked block, and a blank sheet.
use Rattle.std.specs.Prelude.{ℕ, zero, suc, ◌+◌, ◌-◌, ◌*◌, ◌/◌, ◌%◌, cond, List, length, get_or, set, replicate, eqb}
use Rattle.words.specs.Write.{bytes_of}
use Rattle.sheet_layout.specs.Layout.{stock_size, effect_size}
use Rattle.effect.specs.declared.Stock.{Stock}
use Rattle.effect.specs.declared.Effect.{Effect}

-- the fields of type i, in the order of the sheet
abbrev pub stock_field : Stock → ℕ → ℕ → ℕ
stock_field x i j = cond (eqb j 0) (get_or x.rights i 0) (get_or x.counts i 0)

abbrev pub effect_field : Effect → ℕ → ℕ → ℕ
effect_field e i j =
    cond (eqb j 0) (get_or e.keepin i 0)
    (cond (eqb j 1) (get_or e.keepmax i 0) (cond (eqb j 2) (get_or e.cap i 0) (get_or e.drop i 0)))

-- the words of a marked block: 1, then the fields of type 0, of type 1, ..
unfoldable pub stock_word : Stock → ℕ → ℕ
stock_word x k = cond (eqb k 0) 1 (stock_field x ((k - 1) / 2) ((k - 1) % 2))

unfoldable pub effect_word : Effect → ℕ → ℕ
effect_word e k = cond (eqb k 0) 1 (effect_field e ((k - 1) / 4) ((k - 1) % 4))

-- the bytes of a marked block of t types
abbrev pub stock_bytes : Stock → ℕ → List ℕ
stock_bytes x t = bytes_of (stock_word x) (stock_size t)

abbrev pub effect_bytes : Effect → ℕ → List ℕ
effect_bytes e t = bytes_of (effect_word e) (effect_size t)

-- as many bytes, each 0
abbrev pub blanked : List ℕ → List ℕ
blanked s = replicate (length s) 0

-- how a block's words are put together: into v, the elements 0 to t - 1 of c, the first at j and the others n further on each
unfoldable pub laid_out : List ℕ → ℕ → ℕ → List ℕ → ℕ → List ℕ
laid_out v n j c zero = v
laid_out v n j c (suc t) = set (laid_out v n j c t) (j + n * t) (get_or c t 0)
