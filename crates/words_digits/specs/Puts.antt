-- What is said of every function that writes text into a lent buffer: where it started, what it put there, and where it ended.
use Rattle.std.specs.Prelude.{ℕ, ◌+◌, ◌≤◌, ◌≡◌, List, length}
use Rattle.words.specs.Write.{splice}

-- s has become s', in which the text stands from `at` up to `end` and the rest is as it was. The last two follow from the
-- first two and from what is required; they are there for the callers' sums.
pub record Puts (s : List ℕ) (at : ℕ) (text s' : List ℕ) (end : ℕ) : Type 0 where
  pub is : s' ≡ splice s at text
  pub ends : end ≡ at + length text
  pub fits : at + length text ≤ length s
  pub long : length s' ≡ length s
