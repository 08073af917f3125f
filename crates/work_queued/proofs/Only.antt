-- For each file, each lent sheet and each lent area there is no second answer and no second content; and whatever the area held, answer and
-- sheet are those of work out.
--   only_queued, same_engine
use Prim.Native.Nat.{ℕ}
use mathlib.Core.Path.{◌≡◌, sym, ◌∙◌}
use mathlib.Core.List.{List}
use lib.ListN.{length}
use Rattle.answer.specs.declared.Answer.{Answer}
use Rattle.answer.specs.declared.Answer.TheVariants.{BadSheet, BadArea}
use Rattle.answer.proofs.Settled.{says_only}
use Rattle.graph.specs.Judge.{judge_of}
use Rattle.work.specs.Meaning as work
use Rattle.work.specs.Meaning.{WorksOut}
use Rattle.work.proofs.Only as plain
use Rattle.work_queued.specs.Meaning.{WorksQueued, refused, wrong_length, wrong_area, worked}

-- an area of the right length: what work out promises
pub as_plain : {f s r b c : List ℕ} {a : Answer} → length b ≡ 4096 → WorksQueued f s r b c a → WorksOut f s r a
as_plain l (refused n e d v) = work.refused n e v
as_plain l (wrong_length p n e d v) = work.wrong_length p n e v
as_plain l (wrong_area p k n e d v) = absurd (n l)
as_plain l (worked p k m w z) = w

-- Whatever the areas held, the queue engine answers and writes what work out does.
pub same_engine : (f s r q b c : List ℕ) {a d : Answer} → length b ≡ 4096 → WorksQueued f s r b c a → WorksOut f s q d → (a ≡ d) × (r ≡ q)
same_engine f s r q b c l h w = plain.only f s r q (as_plain l h) w

module _ (f s b : List ℕ) where
  pub only_queued : (r q c d : List ℕ) {a e : Answer} → WorksQueued f s r b c a → WorksQueued f s q b d e → (a ≡ e) × (r ≡ q) × (c ≡ d)
  only_queued r q c d (refused n x y v) (refused m z w u) = (says_only (judge_of f) v ∙ sym (says_only (judge_of f) u), x ∙ sym z, y ∙ sym w)
  only_queued r q c d (refused n x y v) (wrong_length p m z w u) = absurd (n p)
  only_queued r q c d (refused n x y v) (wrong_area p l m z w u) = absurd (n p)
  only_queued r q c d (refused n x y v) (worked p l k w z) = absurd (n p)
  only_queued r q c d (wrong_length p n x y v) (refused m z w u) = absurd (m p)
  only_queued r q c d (wrong_length p n x y v) (wrong_length o m z w u) = (says_only BadSheet v ∙ sym (says_only BadSheet u), x ∙ sym z, y ∙ sym w)
  only_queued r q c d (wrong_length p n x y v) (wrong_area o l m z w u) = absurd (n l)
  only_queued r q c d (wrong_length p n x y v) (worked o l k w z) = absurd (n l)
  only_queued r q c d (wrong_area p l n x y v) (refused m z w u) = absurd (m p)
  only_queued r q c d (wrong_area p l n x y v) (wrong_length o m z w u) = absurd (m l)
  only_queued r q c d (wrong_area p l n x y v) (wrong_area o k m z w u) = (says_only BadArea v ∙ sym (says_only BadArea u), x ∙ sym z, y ∙ sym w)
  only_queued r q c d (wrong_area p l n x y v) (worked o k h w z) = absurd (n h)
  only_queued r q c d (worked p l k w z) (refused m x y u) = absurd (m p)
  only_queued r q c d (worked p l k w z) (wrong_length o m x y u) = absurd (m l)
  only_queued r q c d (worked p l k w z) (wrong_area o h m x y u) = absurd (m k)
  only_queued r q c d (worked p l k w z) (worked o h i v y) = let same = plain.only f s r q w v in (same.0, same.1, z ∙ sym y)
