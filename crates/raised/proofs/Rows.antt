-- Files that are the same but for the opening stock, the first of which passes, have the same rows.
use Prim.Native.Nat.{ℕ}
use mathlib.Core.Path.{◌≡◌}
use mathlib.Core.List.{List}
use native.Mathlib.Omega.{arith}
use Rattle.answer.specs.declared.Answer.TheVariants.{Pass}
use Rattle.graph_tables.specs.Trailer.{trailer_at, tables_of}
use Rattle.graph_tables.proofs.SameRows.{Read, of_methods, of_node, of_rows, of_trailer, SameRows}
use Rattle.graph_refuse.proofs.Fit.{length_fit}
use Rattle.graph.specs.Judge.{judge_of}
use Rattle.graph.proofs.Passed.{judged}
use Rattle.raised.specs.Opening.{OfOpening, ButOpening}

module _ {f g : List ℕ} (pass : judge_of f ≡ Pass) (B : ButOpening f g) where
  -- the opening table ends where the trailer begins
  at_end : trailer_at f ≡ (tables_of f).end
  unfolding trailer_at
  at_end = omega (arith, length_fit f (tables_of f) (judged f (tables_of f) pass).whole)

  unread : (p : ℕ) → Read f p → OfOpening f p → ⊥
  unfolding tables_of
  unread p (of_methods l) o = omega (arith, o.0)
  unread p (of_node n l a b) o = omega (arith, o.0)
  unread p (of_rows a b) o = omega (arith, o.0)
  unread p (of_trailer a) o = omega (arith, at_end, o.1)

  pub same_rows : SameRows f g
  same_rows = record { one_length = B.one_length; same_bytes = λ p r. B.same_bytes p (unread p r) }
