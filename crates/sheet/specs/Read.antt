-- How the blocks of a sheet are read: a stock and an effect of six types, of which the file has t.
use Rattle.std.specs.Prelude.{ℕ, ◌+◌, ◌*◌, ◌≤◌, ◌<◌, ◌≡◌, Bool, cond, List, ltb, eqb}
use Rattle.words.specs.Bytes.{word_at}
use Rattle.effect.specs.declared.Stock.{Stock}
use Rattle.effect.specs.declared.Effect.{Effect}
use Rattle.effect.specs.Six.{six}

-- "Words of two bytes": word w of the sheet
abbrev pub sheet_word : List ℕ → ℕ → ℕ
sheet_word s w = word_at s (2 * w)

-- the n words from w on are the same in two sheets
abbrev pub SameWords : List ℕ → List ℕ → ℕ → ℕ → Type 0
SameWords s r w n = (v : ℕ) → w ≤ v → v < w + n → sheet_word s v ≡ sheet_word r v

-- the mark of the block whose first word is w
abbrev pub mark_at : List ℕ → ℕ → ℕ
mark_at s w = sheet_word s w

-- the block at the word w has mark 1
unfoldable pub marked : List ℕ → ℕ → Bool
marked s w = eqb (mark_at s w) 1

-- one field of the types, in the block at w: that of type 0 is word j, that of each further type stands n words on; `none` for a type that
-- the file does not have
abbrev pub column : List ℕ → ℕ → ℕ → ℕ → ℕ → ℕ → ℕ → ℕ
column s t w n j none k = cond (ltb k t) (sheet_word s (w + (j + n * k))) none

-- "its stock (rights, count per type)"; a type that the file does not have holds nothing
unfoldable pub stock_at : List ℕ → ℕ → ℕ → Stock
stock_at s t w = record { rights = six (column s t w 2 1 0); counts = six (column s t w 2 2 0) }

-- "an effect (keep-in, keep-max, cap, drop per type)"; to a type that the file does not have nothing is done: 0, all bits, cap 255, drop 0
unfoldable pub effect_at : List ℕ → ℕ → ℕ → Effect
effect_at s t w =
    record {
      keepin = six (column s t w 4 1 0);
      keepmax = six (column s t w 4 2 65535);
      cap = six (column s t w 4 3 255);
      drop = six (column s t w 4 4 0);
    }
