-- The formulas of the operations on one type. What they come to is said in specs/Meaning.antt of `effect`.
use Rattle.std.specs.Prelude.{ℕ, min, Bool, ◌&&◌, cond, leb, eqb}
use Rattle.std.specs.Int.Bits.{bit_and}
use Rattle.effect_one.specs.declared.Held.{Held}
use Rattle.effect_one.specs.declared.One.{One}
use Rattle.effect_number.specs.Number.{counted, less, rights_after}
use Rattle.effect_number.specs.Formulas.{norm_drop, then_cap, sum_drop, earlier_drop, larger_drop, count_at_most, within}
use Rattle.effect_one.specs.Single.{drop_only}

-- "Normal form: keep-in within keep-max; cap 0 has drop 256; drop 254 is written 255."
unfoldable pub normal_form : One → One
normal_form x =
    record {
      keepin = bit_and x.keepin x.keepmax;
      keepmax = x.keepmax;
      cap = counted x.cap;
      drop = norm_drop x.cap x.drop;
    }

unfoldable pub normal_one : One → Bool
normal_one x = within x.keepin x.keepmax && (leb x.cap 255 && eqb (norm_drop x.cap x.drop) x.drop)

-- "Draw: the same with drop 1. Grant p, m: p, p, m, 256."
unfoldable pub drawn : One
drawn = drop_only 1

unfoldable pub granted : ℕ → ℕ → One
granted p m = normal_form (record { keepin = p; keepmax = p; cap = m; drop = 256 })

-- "Then: first (c, d), second (e, f). .. Rights follow from the meaning."
unfoldable pub then_one : One → One → One
then_one x y =
    normal_form
    (record {
      keepin = rights_after y.keepin y.keepmax x.keepin;
      keepmax = rights_after y.keepin y.keepmax x.keepmax;
      cap = then_cap x.cap y.cap y.drop;
      drop = sum_drop x.drop y.drop;
    })

-- x taken k times, without a repetition: the effect itself if its drop is none; else the cap less all drops but the first, and the sum of
-- all drops. The rights are those after one time.
unfoldable pub times_one : One → ℕ → One
times_one x k =
    cond (leb 256 x.drop) (normal_form x)
    (normal_form
    (record {
      keepin = x.keepin;
      keepmax = x.keepmax;
      cap = less x.cap (earlier_drop k x.drop);
      drop = sum_drop (earlier_drop k x.drop) x.drop;
    }))

-- "Both: the smaller cap, the larger drop (256 counts as smallest), rights and-ed field by field."
unfoldable pub both_one : One → One → One
both_one x y =
    normal_form
    (record {
      keepin = bit_and x.keepin y.keepin;
      keepmax = bit_and x.keepmax y.keepmax;
      cap = min x.cap y.cap;
      drop = larger_drop x.drop y.drop;
    })

-- the test that one effect is at most another: the first in normal form, field by field
abbrev pub fields_at_most : One → One → Bool
fields_at_most x y =
    within x.keepin y.keepin
    && (within x.keepmax y.keepmax && count_at_most x.cap x.drop y.cap y.drop)

unfoldable pub at_most_one : One → One → Bool
at_most_one x y = fields_at_most (normal_form x) y

-- one stock is at most another: its rights are among the other's, and its count is no larger
unfoldable pub held_at_most : Held → Held → Bool
held_at_most h g = within h.rights g.rights && leb (counted h.count) g.count

-- the smaller stock: the rights of both, and the smaller count
unfoldable pub lower_held : Held → Held → Held
lower_held h g = record { rights = bit_and h.rights g.rights; count = min h.count g.count }

-- "It covers a draw if it has every right drawn and a count of at least 1."
unfoldable pub covers_held : Held → ℕ → Bool
covers_held h p = within p h.rights && leb 1 h.count
