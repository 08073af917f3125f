-- The formulas of normal form, then, both and at most. What they come to is said in specs/Meaning.antt of `effect`.
use Rattle.std.specs.Prelude.{ℕ, ◌+◌, ◌-◌, ◌*◌, min, Bool, ◌&&◌, ◌||◌, leb, ltb, eqb}
use Rattle.std.specs.Int.Bits.{bit_and}
use Rattle.effect_number.specs.Number.{pick, counted, less}

-- "drop 254 is written 255"
abbrev pub written : ℕ → ℕ
written drop = pick (leb 256 drop) 256 (pick (eqb drop 254) 255 drop)

-- "cap 0 has drop 256"
unfoldable pub norm_drop : ℕ → ℕ → ℕ
norm_drop cap drop = pick (eqb cap 0) 256 (written drop)

-- "Then: first (c, d), second (e, f). With f = 256 the result is (e, 256). Otherwise cap = min(c less f, e)"
unfoldable pub then_cap : ℕ → ℕ → ℕ → ℕ
then_cap c e f = pick (leb 256 f) e (min (less c f) e)

-- "drop = 256 if d is, else d + f, which from 254 on, or with either endless, is 255"
unfoldable pub sum_drop : ℕ → ℕ → ℕ
sum_drop d f = pick (leb 256 f) 256 (pick (leb 256 d) 256 (pick (ltb (d + f) 254) (d + f) 255))

-- the drop of all of k times but one, each with the drop d; k = 0 is read as 1
unfoldable pub earlier_drop : ℕ → ℕ → ℕ
earlier_drop k d = counted ((k - 1) * d)

-- "the larger drop (256 counts as smallest)"
unfoldable pub rank : ℕ → ℕ
rank d = pick (leb 256 d) 0 (d + 1)

unfoldable pub larger_drop : ℕ → ℕ → ℕ
larger_drop d f = pick (leb (rank d) (rank f)) f d

-- "A cap of 0 is at most every cap and drop"; another is at most a cap no smaller with a drop no larger
unfoldable pub count_at_most : ℕ → ℕ → ℕ → ℕ → Bool
count_at_most c d e f = eqb c 0 || (leb c e && leb (rank f) (rank d))

-- the bits of a are among those of b
unfoldable pub within : ℕ → ℕ → Bool
within a b = eqb (bit_and a b) a
