-- What is read of one type of a block.
use Prim.Native.Nat.{ℕ, ◌+◌, ◌*◌, ◌≤◌, ◌<◌}
use mathlib.Core.Path.{◌≡◌, ap, ◌∙◌}
use mathlib.Core.Bool.{Bool, cond}
use mathlib.Core.List.{List}
use lib.ListN.{get_or}
use borrow.Author.Tests.{lt-ltb}
use Rattle.effect_one.specs.Single.{idle}
use Rattle.effect.specs.Six.{six, one_at}
use Rattle.effect.proofs.Fields.{fields_idle}
use Rattle.sheet.specs.Read.{sheet_word, column, effect_at}
use Rattle.sheet.specs.Inner.{one_words}
use Rattle.sheet.proofs.Back.{six_at, effect_read}

module _ (s : List ℕ) (t w : ℕ) where
  -- of a type that the file has,
  pub one_read : (k : ℕ) → k < t → k < 6 → one_at (effect_at s t w) k ≡ one_words s w k
  unfolding effect_at one_words
  one_read k u l = λ i. record { keepin = at 1 0 i; keepmax = at 2 65535 i; cap = at 3 255 i; drop = at 4 0 i }
    where
      at : (j none : ℕ) → get_or (six (column s t w 4 j none)) k 0 ≡ sheet_word s (w + (j + 4 * k))
      at j none = six_at (column s t w 4 j none) k l ∙ ap (λ (b : Bool). cond b (sheet_word s (w + (j + 4 * k))) none) (lt-ltb k t u)

  -- and of a further one
  pub idle_read : (k : ℕ) → t ≤ k → k < 6 → one_at (effect_at s t w) k ≡ idle
  idle_read k u l =
      let f = effect_read s t w in
      fields_idle (effect_at s t w) k (record { keepin = f.keepin.rest k u l; keepmax = f.keepmax.rest k u l; cap = f.cap.rest k u l; drop = f.drop.rest k u l })
