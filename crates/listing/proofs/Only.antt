-- No second answer, sheet, output or length fits the operation's promise, and no second text the program's.
use Prim.Native.Nat.{ℕ}
use mathlib.Core.Path.{◌≡◌, refl, sym, ap, ◌∙◌}
use mathlib.Core.Bool.{Bool, true, false}
use mathlib.Core.List.{List}
use lib.ListN.{length}
use lib.Dec.{eqb}
use borrow.Author.Tests.{eqb-true, eqb-false}
use native.Mathlib.Omega.{arith}
use Rattle.answer.specs.declared.Answer.{Answer}
use Rattle.answer.specs.declared.Answer.TheVariants.{Pass, OutputShort}
use Rattle.answer.specs.Number.{number_of}
use Rattle.answer.proofs.Settled.{says_only}
use Rattle.answer.proofs.Unpack.{zero_pass}
use Rattle.graph_tables.specs.Trailer.{tables_of}
use Rattle.graph.specs.Judge.{judge_of}
use Rattle.sheet_layout.specs.Layout.{sheet_bytes}
use Rattle.graph.specs.Judgement.{shape_of, judged_of}
use Rattle.graph.proofs.Whole.{own_shape}
use Rattle.accept.specs.Check.{check_of}
use Rattle.listing_first.specs.Listing.{first_line}
use Rattle.work.specs.Meaning.{WorksOut, refused, wrong_length, overdrawn, passes}
use Rattle.work.proofs.Agree.{wrote, agree}
use Rattle.work.proofs.Only.{only, one_sheet}
use Rattle.listing.specs.Lists.{text_of, padded, Lists, too_short, told, Prints, too_long, whole}
use Rattle.listing.proofs.Longest.{one_line}

pub one_listing : {f s r q o b d : List ℕ} {a c : Answer} {m n : ℕ} → Lists f s r o b a m → Lists f s q o d c n → (a ≡ c) × (r ≡ q) × (b ≡ d) × (m ≡ n)
one_listing (too_short h e u x l) (too_short k g v y m) = (says_only OutputShort x ∙ sym (says_only OutputShort y), e ∙ sym g, u ∙ sym v, l ∙ sym m)
one_listing (too_short h e u x l) (told k w v m) = absurd (omega arith)
one_listing (told k w v m) (too_short h e u x l) = absurd (omega arith)
one_listing {f} {s} {r} {q} {o} {a = a} {c = c} (told h u b l) (told k v d m) =
    let same = only f s r q u v in
    let text : text_of f a r ≡ text_of f c q = λ i. text_of f (same.0 i) (same.1 i) in
    (same.0, same.1, b ∙ ap (λ (l : List ℕ). padded l (length o)) text ∙ sym d, l ∙ ap length text ∙ sym m)

module _ (f : List ℕ) where
  -- of a refused file the answer is the judge's
  refusal : {s r : List ℕ} {a : Answer} → (judge_of f ≡ Pass → ⊥) → WorksOut f s r a → a ≡ judge_of f
  refusal n (refused m e v) = says_only (judge_of f) v
  refusal n (wrong_length p m e v) = absurd (n p)
  refusal n (overdrawn l w m o h v) = absurd (n w.well_formed.0)
  refusal n (passes l w o v) = absurd (n w.well_formed.0)

  -- the text does not depend on what the lent sheet held
  same_text : {s r u q : List ℕ} {a b : Answer} → length s ≡ sheet_bytes (judged_of f).shape → length u ≡ sheet_bytes (judged_of f).shape → WorksOut f s r a → WorksOut f u q b → text_of f a r ≡ text_of f b q
  same_text {s} {r} {u} {q} {a} {b} l k v w = go (eqb (number_of (judge_of f)) 0) refl
    where
      go : (c : Bool) → eqb (number_of (judge_of f)) 0 ≡ c → text_of f a r ≡ text_of f b q
      go true e =
          let p : judge_of f ≡ Pass = zero_pass (judge_of f) (eqb-true (number_of (judge_of f)) 0 e) in
          let l' : length s ≡ sheet_bytes (shape_of (tables_of f)) = l ∙ ap sheet_bytes (own_shape f p) in
          let k' : length u ≡ sheet_bytes (shape_of (tables_of f)) = k ∙ ap sheet_bytes (own_shape f p) in
          let same : r ≡ q = one_sheet f r q (wrote f s r v p l').0 (wrote f u q w p k').0 in
          let answer : a ≡ b = sym (agree f s r v p l') ∙ ap (check_of f) same ∙ agree f u q w p k' in
          λ i. text_of f (answer i) (same i)
      go false e =
          let n : judge_of f ≡ Pass → ⊥ = λ p. eqb-false (number_of (judge_of f)) 0 e (ap number_of p) in
          one_line f n a r ∙ ap first_line (refusal n v ∙ sym (refusal n w)) ∙ sym (one_line f n b q)

pub one_text : {input x y : List ℕ} → Prints input x → Prints input y → x ≡ y
one_text (too_long h) (too_long k) = refl
one_text (too_long h) (whole k l w) = absurd (omega arith)
one_text (whole k l w) (too_long h) = absurd (omega arith)
one_text {input} (whole h l v) (whole k m w) = same_text input l m v w
