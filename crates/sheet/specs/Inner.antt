-- The four words of one type of an effect, as they stand in a block, and the effect of t such types.
use Rattle.std.specs.Prelude.{ℕ, ◌+◌, ◌*◌, List, cond, ltb}
use Rattle.effect_one.specs.declared.One.{One}
use Rattle.effect.specs.declared.Effect.{Effect}
use Rattle.effect.specs.Six.{six}
use Rattle.sheet.specs.Read.{sheet_word}

unfoldable pub one_words : List ℕ → ℕ → ℕ → One
one_words s w k =
    record {
      keepin = sheet_word s (w + (1 + 4 * k));
      keepmax = sheet_word s (w + (2 + 4 * k));
      cap = sheet_word s (w + (3 + 4 * k));
      drop = sheet_word s (w + (4 + 4 * k));
    }

-- the effect that does to each of t types what f says, and nothing to a further one: 0, all bits, cap 255, drop 0
unfoldable pub of_types : (ℕ → One) → ℕ → Effect
of_types f t =
    record {
      keepin = six (λ k. cond (ltb k t) (f k).keepin 0);
      keepmax = six (λ k. cond (ltb k t) (f k).keepmax 65535);
      cap = six (λ k. cond (ltb k t) (f k).cap 255);
      drop = six (λ k. cond (ltb k t) (f k).drop 0);
    }
