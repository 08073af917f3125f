-- A graph that fits one-shot also passes: where one-shot gives 0, work out gives 0 for every sheet of the right length.
use Prim.Native.Nat.{ℕ}
use mathlib.Core.Path.{◌≡◌, sym, ap, ◌∙◌}
use mathlib.Core.List.{List}
use native.Mathlib.Omega.{arith}
use lib.ListN.{length}
use Rattle.answer.specs.declared.Answer.{Answer}
use Rattle.answer.specs.declared.Answer.TheVariants.{Pass}
use Rattle.answer.specs.Number.{number_of, packed_of}
use Rattle.answer.proofs.Settled.{says_only}
use Rattle.answer.proofs.Unpack.{number_unpacked, zero_pass}
use Rattle.graph.specs.Judge.{judge_of}
use Rattle.graph_nodes.specs.Program.{Overdrawing}
use Rattle.profile.specs.Profile.{Profiled, refused, unfit, fits}
use Rattle.sheet_layout.specs.Layout.{sheet_bytes}
use Rattle.rule_test.specs.Sheet.{shape}
use Rattle.work.specs.Meaning as work
use Rattle.snellair.specs.Reply.{WorkedOut, OneShot}

judged : {f : List ℕ} {B : ℕ → Type 0} {a : Answer} → Profiled f B a → number_of a ≡ 0 → judge_of f ≡ Pass
judged {f} (refused n v) e = zero_pass (judge_of f) (sym v.number_is ∙ e)
judged (unfit p n x y v) e = p
judged (fits p h v) e = p

module _ (f s r : List ℕ) (right-length : length s ≡ sheet_bytes (shape f)) where
  passes : judge_of f ≡ Pass → ((n : ℕ) → Overdrawing f n → ⊥) → {a : Answer} → work.WorksOut f s r a → a ≡ Pass
  passes p h (work.refused n e v) = absurd (n p)
  passes p h (work.wrong_length q n e v) = absurd (n right-length)
  passes p h (work.overdrawn l w n o b v) = absurd (h n o)
  passes p h (work.passes l w c v) = says_only Pass v

  pub fits_passes : {n : ℕ} → OneShot f 0 → WorkedOut f s r n → n ≡ 0
  fits_passes o w =
      let e : number_of o.answer ≡ 0 = omega (arith, number_unpacked o.answer, o.packed) in
      w.packed ∙ ap packed_of (passes (judged o.means e) (o.safe e) w.works)
