-- What is said of every function that writes text.
use Rattle.std.specs.Prelude.{ℕ, ◌≡◌, List}
use Rattle.words_digits.specs.declared.Text.{Text}
use Rattle.words_digits.specs.Puts.{Puts}

-- the text old has become new: it lends the same buffer, into which x is put at the end
pub record Writes (old : Text) (x : List ℕ) (new : Text) : Type 0 where
  pub same : new.out.ghost_name ≡ old.out.ghost_name
  pub puts : Puts old.out.now old.end x new.out.now new.end
