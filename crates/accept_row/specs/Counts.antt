-- How many sheets are lent, and how many numbers for them.
use Rattle.std.specs.Prelude.{ℕ, ◌*◌, ◌≤◌, ◌≡◌}

-- so many bytes are k whole sheets of this size, "1 to 20", and so many numbers are "two numbers a sheet"
pub record Counts (size bytes numbers k : ℕ) : Type 0 where
  pub some : 1 ≤ k
  pub few : k ≤ 20
  pub whole : bytes ≡ k * size
  pub two : numbers ≡ 2 * k
