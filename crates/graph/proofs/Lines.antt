-- Files that differ only in lines have the same rows and the same opening stock.
use Prim.Native.Nat.{ℕ, ◌≤◌, ◌<◌}
use mathlib.Core.Path.{◌≡◌, refl}
use mathlib.Core.Bool.{Bool, true, false, cond}
use mathlib.Core.Logic.{◌⊎◌, ⊎_elim}
use mathlib.Core.List.{List}
use native.Mathlib.Omega.{arith}
use lib.ListN.{length}
use lib.Dec.{ltb}
use Rattle.words.specs.Lowest.{lowest}
use Rattle.answer.specs.declared.Answer.{Answer}
use Rattle.answer.specs.declared.Answer.TheVariants.{TooShort, BadCount, BadLength}
use Rattle.answer.specs.Number.{number_of}
use Rattle.graph_tables.specs.Trailer.{trailer_at, tables_of}
use Rattle.graph_tables.proofs.SameRows.{Read, of_methods, of_node, of_rows, of_trailer, SameRows, SameOpening}
use Rattle.graph_refuse.specs.Bad.{count_bad, length_bad}
use Rattle.graph_refuse.proofs.Fit.{length_fit}
use Rattle.graph.specs.Judge.{judge_in, judge_of}
use Rattle.graph.specs.Lines.{OfLine, SameButLines}

abbrev PastLength : Answer → Type 0
PastLength a = (number_of a ≡ 0) ⊎ (3 < number_of a)

not_length : (a b c : Bool) (i : ℕ) (next : Answer) → PastLength (cond a TooShort (cond b (BadCount i) (cond c BadLength next))) → c ≡ false
not_length true b c i next h = absurd (⊎_elim (λ e. omega arith) (λ l. omega arith) h)
not_length false true c i next h = absurd (⊎_elim (λ e. omega arith) (λ l. omega arith) h)
not_length false false true i next h = absurd (⊎_elim (λ e. omega arith) (λ l. omega arith) h)
not_length false false false i next h = refl

-- the tables of a file that is not refused 1 to 3 end where its trailer begins
whole : (f : List ℕ) → PastLength (judge_of f) → trailer_at f ≡ (tables_of f).end
unfolding judge_in trailer_at
whole f h = omega (arith, length_fit f (tables_of f) (not_length (ltb (length f) 14) (ltb (lowest (count_bad f) 6) 6) (length_bad f (tables_of f)) _ _ h))

module _ {f g : List ℕ} (A : SameButLines f g) where
  -- no line stands in front of the nodes, in the other six bytes of one, or behind them
  behind : (p : ℕ) → (tables_of f).flowsat ≤ p → OfLine f p → ⊥
  unfolding tables_of
  behind p l (n, k, a, b) = omega arith

  unread : (p : ℕ) → Read f p → OfLine f p → ⊥
  unfolding tables_of
  unread p (of_methods l) (n, k, a, b) = omega arith
  unread p (of_node m h c d) (n, k, a, b) = omega arith
  unread p (of_rows c d) o = behind p c o
  unread p (of_trailer c) (n, k, a, b) = omega (arith, whole f A.past_length)

  pub same_rows : SameRows f g
  same_rows = record { one_length = A.one_length; same_bytes = λ p r. A.same_bytes p (unread p r) }

  pub same_opening : SameOpening f g
  unfolding tables_of
  same_opening p a = A.same_bytes p (λ o. behind p (omega arith) o)
