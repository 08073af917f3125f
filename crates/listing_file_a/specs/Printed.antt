-- What is printed of file A.
use Rattle.std.specs.Prelude.{ℕ, List}
use Rattle.words_digits.specs.Text.{ascii}
use Rattle.table_k.specs.File.{file_bytes}
use Rattle.table_k.specs.Table.{a_with}

-- File A, whose 86 bytes are `a_bytes` of crate `table_k`
abbrev pub file_a : List ℕ
file_a = file_bytes (a_with 2 2)

-- "prints `pass`, `0 0 0000 0`, `1 0 0101 2`, `2 0 0101 0`, `3 0 0101 1`, `4 0 0101 0`"
abbrev pub printed : List ℕ
printed = ascii "pass\n0 0 0000 0\n1 0 0101 2\n2 0 0101 0\n3 0 0101 1\n4 0 0101 0\n"
