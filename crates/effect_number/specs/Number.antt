-- Counts, drops and rights of one type, as numbers. 255 is endless and a drop of 256 none; so that every number has a
-- meaning, a count or cap above 255 is read as 255, and a drop above 256 as 256.
use Rattle.std.specs.Prelude.{ℕ, ◌-◌, min, Bool, true, false, leb}
use Rattle.std.specs.Int.Bits.{bit_and, bit_or}

-- the first number where the test holds, else the second
abbrev pub pick : Bool → ℕ → ℕ → ℕ
pick true a b = a
pick false a b = b

-- "A count of 255 means endless"; so does one above 255
abbrev pub counted : ℕ → ℕ
counted n = min n 255

-- "Less stops at 0; endless less anything is endless; any finite count less endless is 0."
unfoldable pub less : ℕ → ℕ → ℕ
less r d = pick (leb 255 r) 255 (pick (leb 255 d) 0 (r - d))

-- "count min(cap, r less drop)", and "256 (none: the count is cap)"
unfoldable pub left : ℕ → ℕ → ℕ → ℕ
left cap drop r = pick (leb 256 drop) cap (min cap (less r drop))

unfoldable pub count_after : ℕ → ℕ → ℕ → ℕ
count_after cap drop r = counted (left cap drop r)

-- "rights (r or keep-in) and keep-max, bit by bit"
unfoldable pub rights_after : ℕ → ℕ → ℕ → ℕ
rights_after keepin keepmax r = bit_and (bit_or r keepin) keepmax
