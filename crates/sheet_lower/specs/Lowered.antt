-- What is written where an effect is lowered in its place.
use Rattle.std.specs.Prelude.{ℕ, cond, List, ◌++◌}
use Rattle.words.specs.Write.{word_bytes}
use Rattle.effect_one.specs.declared.One.{One}
use Rattle.effect.specs.declared.Effect.{Effect}
use Rattle.effect.specs.Whole.{both_of}
use Rattle.sheet.specs.Read.{marked, effect_at}
use Rattle.sheet.specs.Write.{effect_bytes}

-- the words of one type
abbrev pub one_bytes : One → List ℕ
one_bytes x = word_bytes x.keepin ++ (word_bytes x.keepmax ++ (word_bytes x.cap ++ word_bytes x.drop))

-- the effect that the block at w has afterwards
abbrev pub lowered_effect : List ℕ → ℕ → ℕ → Effect → Effect
lowered_effect s t w e = cond (marked s w) (both_of (effect_at s t w) e) e

-- the block's bytes: marked, with e or, where it was marked, the lower of what it said and e
abbrev pub lowered_bytes : List ℕ → ℕ → ℕ → Effect → List ℕ
lowered_bytes s t w e = effect_bytes (lowered_effect s t w e) t
