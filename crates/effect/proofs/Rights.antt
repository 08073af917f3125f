-- Laws of rights: each is a law of min and max at one bit.
use Prim.Native.Nat.{ℕ, ◌≤◌, ◌<◌, min, max}
use mathlib.Core.Path.{◌≡◌, ◌∙◌, ap}
use native.Mathlib.Omega.{arith}
use native.Mathlib.Nat.{max-min_distrib_left}
use lib.Bits.{bit_and, bit_or}
use Rattle.effect_number.specs.Number.{rights_after}
use Rattle.effect.specs.Coordinate.{bit}
use Rattle.effect.proofs.Bit.{bit_lt, bit_and_lem, bit_or_lem, bit_ext, bit_none, bit_ones}
use Rattle.effect.proofs.Count.{min_swap}

pub bit_after : (b i m r : ℕ) → bit b (rights_after i m r) ≡ min (max (bit b r) (bit b i)) (bit b m)
unfolding rights_after
bit_after b i m r = bit_and_lem b (bit_or r i) m ∙ ap (λ (x : ℕ). min x (bit b m)) (bit_or_lem b r i)

max_min : (a b c : ℕ) → max (min a b) c ≡ min (max a c) (max b c)
max_min a b c = omega arith

max_assoc : (a b c : ℕ) → max (max a b) c ≡ max a (max b c)
max_assoc a b c = omega arith

-- normal form changes no result
lattice_norm : (r i m : ℕ) → min (max r (min i m)) m ≡ min (max r i) m
lattice_norm r i m = omega arith

pub rights_norm : (i m r : ℕ) → rights_after (bit_and i m) m r ≡ rights_after i m r
rights_norm i m r = bit_ext _ _ (λ b. simp (bit_after, bit_and_lem) (lattice_norm (bit b r) (bit b i) (bit b m)))

-- then is one after the other
min_absorbs : (p r n z : ℕ) → min (min p (max r n)) (min z n) ≡ min (min p z) n
min_absorbs p r n z = omega arith

lattice_then : (r i m j n : ℕ) → min (max r (min (max i j) n)) (min (max m j) n) ≡ min (max (min (max r i) m) j) n
lattice_then r i m j n =
    rw (max_min (max r i) m j, max_assoc r i j, max-min_distrib_left r (max i j) n) (min_absorbs (max r (max i j)) r n (max m j))

pub rights_then : (i m j n r : ℕ) → rights_after (rights_after j n i) (rights_after j n m) r ≡ rights_after j n (rights_after i m r)
rights_then i m j n r = bit_ext _ _ (λ b. simp bit_after (lattice_then (bit b r) (bit b i) (bit b m) (bit b j) (bit b n)))

-- both is the rights that both leave
lattice_both : (r i m j n : ℕ) → min (max r (min i j)) (min m n) ≡ min (min (max r i) m) (min (max r j) n)
lattice_both r i m j n = rw max-min_distrib_left (min_swap (max r i) (max r j) m n)

pub rights_both : (i m j n r : ℕ) → rights_after (bit_and i j) (bit_and m n) r ≡ bit_and (rights_after i m r) (rights_after j n r)
rights_both i m j n r = bit_ext _ _ (λ b. simp (bit_after, bit_and_lem) (lattice_both (bit b r) (bit b i) (bit b m) (bit b j) (bit b n)))

-- what is left follows what was there
min_over : (p q m : ℕ) → min (min p q) m ≡ min (min p m) (min q m)
min_over p q m = omega arith

lattice_and : (r s i m : ℕ) → min (max (min r s) i) m ≡ min (min (max r i) m) (min (max s i) m)
lattice_and r s i m = rw (max_min r s i) (min_over (max r i) (max s i) m)

pub rights_and : (i m r s : ℕ) → rights_after i m (bit_and r s) ≡ bit_and (rights_after i m r) (rights_after i m s)
rights_and i m r s = bit_ext _ _ (λ b. simp (bit_after, bit_and_lem) (lattice_and (bit b r) (bit b s) (bit b i) (bit b m)))

pub rights_mono : (b i m r s : ℕ) → bit b r ≤ bit b s → bit b (rights_after i m r) ≤ bit b (rights_after i m s)
rights_mono b i m r s h = omega (arith, bit_after b i m r, bit_after b i m s)

-- the order of keep-in and keep-max is the order of what is left
pub rights_sound : (b i m j n r : ℕ) → bit b i ≤ bit b j → bit b m ≤ bit b n → bit b (rights_after i m r) ≤ bit b (rights_after j n r)
rights_sound b i m j n r p q = omega (arith, bit_after b i m r, bit_after b j n r)

pub keepin_complete : (b i m j n : ℕ) → bit b i ≤ bit b m → bit b (rights_after i m 0) ≤ bit b (rights_after j n 0) → bit b i ≤ bit b j
keepin_complete b i m j n p h = omega (arith, bit_none b, bit_after b i m 0, bit_after b j n 0)

pub keepmax_complete : (b i m j n : ℕ) → bit b (rights_after i m m) ≤ bit b (rights_after j n m) → bit b m ≤ bit b n
keepmax_complete b i m j n h = omega (arith, bit_after b i m m, bit_after b j n m)

-- nothing done leaves the sixteen bits of a word
pub rights_nothing : (b r : ℕ) → b < 16 → bit b (rights_after 0 65535 r) ≡ bit b r
rights_nothing b r h = omega (arith, bit_after b 0 65535 r, bit_none b, bit_ones 16 b h, bit_lt b r)
