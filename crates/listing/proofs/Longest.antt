-- The shape that a refused file's sheet has, and how long a listing can be.
use Prim.Native.Nat.{ℕ, ◌≤◌}
use mathlib.Core.Path.{◌≡◌, ap}
use mathlib.Core.Bool.{Bool, ◌||◌}
use mathlib.Core.List.{List}
use lib.ListN.{length}
use lib.Dec.{eqb}
use borrow.Author.Tests.{ne_eqb}
use native.Mathlib.Omega.{arith}
use Rattle.answer.specs.declared.Answer.{Answer}
use Rattle.answer.specs.declared.Answer.TheVariants.{Pass}
use Rattle.answer.specs.Number.{number_of}
use Rattle.answer.proofs.Unpack.{zero_pass}
use Rattle.graph_tables.specs.Trailer.{tables_of}
use Rattle.graph.specs.Judge.{judge_of}
use Rattle.graph.specs.Judgement.{no_shape, shape_for, judged_of}
use Rattle.graph.proofs.Whole.{shape_within, limits}
use Rattle.accept.proofs.Draws.{drawn_type}
use Rattle.listing_first.specs.Listing.{first_line}
use Rattle.listing_first.proofs.Lengths.{is_short}
use Rattle.listing_first.proofs.Longest.{first_few, bare, pass_few, overdrawn_few}
use Rattle.work.specs.Meaning.{WorksOut, refused, wrong_length, overdrawn, passes}
use Rattle.listing.specs.Lists.{text_of}

-- whether an answer with this number is a verdict
abbrev pub verdict : ℕ → Bool
verdict number = eqb number 0 || eqb number 13

module _ (f : List ℕ) where
  -- a refused file has no sheet,
  no_shape_lem : (judge_of f ≡ Pass → ⊥) → (judged_of f).shape ≡ no_shape
  unfolding shape_for
  no_shape_lem n = rw (ne_eqb (number_of (judge_of f)) 0 (λ e. n (zero_pass (judge_of f) e)))

  -- so its listing is one line
  pub one_line : (judge_of f ≡ Pass → ⊥) → (a : Answer) (r : List ℕ) → text_of f a r ≡ first_line a
  one_line n a r = bare a f (tables_of f) (judged_of f).shape r (ap (λ x. x.nodes) (no_shape_lem n))

  -- No listing has more than 46,102 bytes.
  pub longest : (s r : List ℕ) {a : Answer} → WorksOut f s r a → length (text_of f a r) ≤ 46102
  longest s r {a} (refused n e v) = rw (one_line n a r) (omega (arith, first_few a))
  longest s r {a} (wrong_length p n e v) = rw (is_short a f (tables_of f) (judged_of f).shape r (ap verdict v.number_is)) (omega (arith, first_few a))
  longest s r {a} (overdrawn l w n o below v) =
      let y = (w.reached n).1 (o.0, o.1) in
      let k = drawn_type f w.well_formed.0 n y.0.0 o.0 o.2 in
      overdrawn_few a f (tables_of f) (judged_of f).shape r (shape_within f) v.number_is (omega (arith, v.place_is, y.0.0, (limits f w.well_formed.0).nodes))
      (omega (arith, v.type_is, (limits f w.well_formed.0).types))
  longest s r {a} (passes l w o v) = pass_few a f (tables_of f) (judged_of f).shape r (shape_within f) v.number_is
