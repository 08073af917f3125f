-- The first 0 of the output stands right behind the text, so that C finds its end.
use Prim.Native.Nat.{ℕ, ◌+◌, ◌-◌, ◌≤◌, ◌<◌}
use mathlib.Core.Path.{◌≡◌, sym, subst, ◌∙◌}
use mathlib.Core.List.{List}
use lib.ListN.{length, get_or, replicate, length-append, length-replicate, get_or-replicate, get_or-append}
use lib.Seq.{get_or-append-add}
use native.Mathlib.Omega.{arith}
use Rattle.words_digits.proofs.Shown.{Shown, shown_at}
use Rattle.answer.specs.declared.Answer.{Answer}
use Rattle.graph_tables.specs.Trailer.{tables_of}
use Rattle.graph.specs.Judgement.{judged_of}
use Rattle.listing_first.proofs.Shown.{shown_listing}
use Rattle.listing.specs.Lists.{text_of, padded, Lists, too_short, told}
use Rattle.listing.proofs.Longest.{longest}

-- up to n there is no 0, and at n there is one
pub record Ends (o : List ℕ) (n : ℕ) : Type 0 where
  pub before : (i : ℕ) → i < n → 0 < get_or o i 0
  pub inside : n < length o
  pub zero : get_or o n 0 ≡ 0

pads_end : (text : List ℕ) (n : ℕ) → Shown text → length text < n → Ends (padded text n) (length text)
pads_end text n s h =
    let rest : List ℕ = replicate (n - length text) 0 in
    let m : length rest ≡ n - length text = length-replicate {A = ℕ} (n - length text) 0 in
    record {
      before = λ i l. subst (λ (b : ℕ). 0 < b) (sym (get_or-append text rest 0 i l)) (shown_at s i l);
      inside = omega (arith, length-append text rest, m);
      zero =
          let k : length text + 0 ≡ length text = omega arith in
          rw k at (get_or-append-add text rest 0 0) ∙ get_or-replicate (n - length text) 0 0 0 (omega arith);
    }

pub ends : {f s r o q : List ℕ} {a : Answer} {n : ℕ} → Lists f s r o q a n → 46103 ≤ length o → Ends q n
ends (too_short h u v y z) few = absurd (omega arith)
ends {f} {s} {r} {o} {q} {a} (told h w e z) few =
    let text : List ℕ = text_of f a r in
    rw (e, z)
    (pads_end text (length o) (shown_listing a f (tables_of f) (judged_of f).shape r) (omega (arith, longest f s r w)))
