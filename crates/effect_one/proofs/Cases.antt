-- An effect taken many times, at each of the two cases.
use Prim.Native.Nat.{ℕ, ◌≤◌, ◌<◌}
use mathlib.Core.Path.{◌≡◌}
use borrow.Author.Tests.{le-leb, lt-leb}
use Rattle.effect_number.specs.Number.{less}
use Rattle.effect_number.specs.Formulas.{sum_drop, earlier_drop}
use Rattle.effect_one.specs.declared.One.{One}
use Rattle.effect_one.specs.Formulas.{normal_form, times_one}

module _ (x : One) (k : ℕ) where
  -- before it is put in normal form
  abbrev pub many : One
  many =
      record {
        keepin = x.keepin;
        keepmax = x.keepmax;
        cap = less x.cap (earlier_drop k x.drop);
        drop = sum_drop (earlier_drop k x.drop) x.drop;
      }

  pub times_none : 256 ≤ x.drop → times_one x k ≡ normal_form x
  unfolding times_one
  times_none h = simp (le-leb 256 x.drop h)

  pub times_some : x.drop < 256 → times_one x k ≡ normal_form many
  unfolding times_one
  times_some h = simp (lt-leb 256 x.drop h)
