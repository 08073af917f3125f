-- One thing that runs bring, done: a good sheet stays as it was, or is a lower good one; and one thing more after others.
--   brought_done, done_next
use Prim.Native.Nat.{ℕ}
use mathlib.Core.Path.{◌≡◌, refl, ◌∙◌}
use mathlib.Core.Bool.{Bool, true, false, not, ◌||◌, true≢false, false≢true}
use mathlib.Core.List.{List}
use native.Mathlib.Omega.{arith}
use Rattle.answer.specs.declared.Answer.TheVariants.{Pass}
use Rattle.graph_tables.specs.Trailer.{tables_of}
use Rattle.graph.specs.Judge.{judge_of}
use Rattle.graph.specs.Judgement.{shape_of}
use Rattle.sheet_layout.specs.declared.Shape.{Shape}
use Rattle.rule_ask.specs.Walk.{Ask, meets}
use Rattle.engine_lower.proofs.Good.{Good, Done}
use Rattle.engine_lower.proofs.Block.{node_done, exit_done, method_done}
use Rattle.engine_row.specs.Lowers.{lowered_to}
use Rattle.engine_row.proofs.Brought.{Brought, of_node, of_exit, of_method}

module _ (f : List ℕ) (pass : judge_of f ≡ Pass) where
  abbrev x : Shape
  x = shape_of (tables_of f)

  pub brought_done : {a : Ask} → Brought f pass a → (s : List ℕ) → Good f pass s → Done f pass s (lowered_to x s a) (meets x s a)
  brought_done (of_node r n e l st h) s G = node_done f pass s G n l e st h
  brought_done (of_exit r m y e l k st h) s G = exit_done f pass s G m y l k e st h
  brought_done (of_method r m h l st hit) s G = method_done f pass s G m l h st hit

  -- one thing more is done, after what was done from s to r
  pub done_next : {s r q : List ℕ} (wrote met : Bool) → Done f pass s r (not wrote) → Done f pass r q met → Done f pass s q (not (wrote || not met))
  done_next true true d c = record { idle = λ e. absurd (false≢true e); good = c.good; falls = λ e. rw (c.idle refl) (d.falls refl) }
  done_next true false d c = record { idle = λ e. absurd (false≢true e); good = c.good; falls = λ e. omega (arith, c.falls refl, d.falls refl) }
  done_next false true d c = record { idle = λ e. c.idle refl ∙ d.idle refl; good = c.good; falls = λ e. absurd (true≢false e) }
  done_next false false d c = record { idle = λ e. absurd (false≢true e); good = c.good; falls = λ e. rw (← d.idle refl) (c.falls refl) }
