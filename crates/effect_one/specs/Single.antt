-- What an effect leaves of one type, and the effect of nothing done.
use Rattle.std.specs.Prelude.{ℕ}
use Rattle.effect_one.specs.declared.Held.{Held}
use Rattle.effect_one.specs.declared.One.{One}
use Rattle.effect_number.specs.Number.{count_after, rights_after}

-- "rights (r or keep-in) and keep-max, bit by bit; count min(cap, r less drop)"
unfoldable pub apply_one : One → Held → Held
apply_one x h =
    record {
      rights = rights_after x.keepin x.keepmax h.rights;
      count = count_after x.cap x.drop h.count;
    }

-- "Nothing done: 0, all bits, cap 255, drop 0."
abbrev pub drop_only : ℕ → One
drop_only d = record { keepin = 0; keepmax = 65535; cap = 255; drop = d }

unfoldable pub idle : One
idle = drop_only 0
