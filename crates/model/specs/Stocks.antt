-- Document 01's stocks and effects, in the places that the machine and the rules leave for them.
use Rattle.std.specs.Prelude.{ℕ}
use Rattle.effect.specs.declared.Stock.{Stock}
use Rattle.effect.specs.declared.Effect.{Effect}
use Rattle.effect.specs.Whole.{nothing_done, draw_of, grant_of, apply_of, then_of, both_of, lower_of}
use Rattle.effect.specs.Coordinate.{Coordinate, at}
use Rattle.effect.specs.Meaning.{replaced, one_taken, Covers}
use Rattle.model.specs.Machine.{Doing}
use Rattle.model.specs.Rules.{Effects}

abbrev pub permits : Effects
permits = record {
  Stock = Stock;
  Coord = Coordinate;
  at = at;
  Effect = Effect;
  apply = apply_of;
  nothing = nothing_done;
  then = then_of;
  both = both_of;
  lower = lower_of;
}

-- what a plain, grant or draw node does: a grant of rights p and count m of type t, a draw of rights p of type t
pub data Does : Type 0 where
  plain : Does
  grant : (t p m : ℕ) → Does
  draw : (t p : ℕ) → Does

-- A draw takes one, covered or not: an overdraw goes on.
unfoldable pub done : Does → Stock → Stock
done plain s = s
done (grant t p m) s = replaced t p m s
done (draw t p) s = one_taken t s

abbrev pub Covered : Does → Stock → Type 0
Covered plain s = Unit {0}
Covered (grant t p m) s = Unit {0}
Covered (draw t p) s = Covers s t p

abbrev pub doing : (ℕ → Does) → Doing Stock
doing does = record { act = λ n. done (does n); Covers = λ n. Covered (does n) }

-- the effect of a node's own step
unfoldable pub step_of : Does → Effect
step_of plain = nothing_done
step_of (grant t p m) = grant_of t p m
step_of (draw t p) = draw_of t
