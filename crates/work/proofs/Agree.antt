-- Check gives the very verdict on the sheet that work out wrote.
use Prim.Native.Nat.{ℕ}
use mathlib.Core.Path.{◌≡◌, sym, ◌∙◌}
use mathlib.Core.Logic.{◌↔◌}
use mathlib.Core.List.{List}
use lib.ListN.{length}
use Rattle.answer.specs.declared.Answer.{Answer}
use Rattle.answer.specs.declared.Answer.TheVariants.{Pass}
use Rattle.graph_tables.specs.Trailer.{tables_of}
use Rattle.graph.specs.Judge.{judge_of}
use Rattle.graph.specs.Judgement.{shape_of}
use Rattle.sheet_layout.specs.Layout.{sheet_bytes}
use Rattle.accept.specs.Check.{check_of}
use Rattle.accept.specs.Meaning as meaning
use Rattle.accept.proofs.Meaning.{only}
use Rattle.work.specs.Meaning.{Worked, WorksOut, refused, wrong_length, overdrawn, passes}
use Rattle.work.proofs.Meaning.{overdraws, covered}

module _ (f s r : List ℕ) where
  -- where neither the file nor the sheet is refused, the sheet is worked out, and check answers the same
  pub wrote : {a : Answer} → WorksOut f s r a → judge_of f ≡ Pass → length s ≡ sheet_bytes (shape_of (tables_of f)) → Worked f r × meaning.Checks f r a
  wrote (refused n e v) p l = absurd (n p)
  wrote (wrong_length q n e v) p l = absurd (n l)
  wrote (overdrawn k w n o below v) p l =
      let u = (overdraws f r w n).1 o in
      (w, meaning.overdrawn w.well_formed w.obeys n u.0 u.1 (λ m h. covered f r w m (below m h)) v)
  wrote (passes k w o v) p l = (w, meaning.accepted w.well_formed w.obeys (λ m. covered f r w m (o m)) v)

  pub agree : {a : Answer} → WorksOut f s r a → judge_of f ≡ Pass → length s ≡ sheet_bytes (shape_of (tables_of f)) → check_of f r ≡ a
  agree w p l = sym (only f r (wrote w p l).1)

  -- Check accepts the sheet exactly if the verdict is 0.
  pub accepted : {a : Answer} → WorksOut f s r a → judge_of f ≡ Pass → length s ≡ sheet_bytes (shape_of (tables_of f)) → (check_of f r ≡ Pass) ↔ (a ≡ Pass)
  accepted w p l = let q = agree w p l in (λ e. sym q ∙ e, λ e. q ∙ e)
