-- What stands at the start of the output is what is printed.
use Prim.Native.Nat.{ℕ, ◌+◌, ◌-◌, ◌≤◌, ◌<◌}
use mathlib.Core.Path.{◌≡◌, sym, ap, subst, ◌∙◌}
use mathlib.Core.List.{List, ◌++◌}
use lib.ListN.{length, take, drop, replicate, length-append}
use lib.Seq.{take_at}
use native.Mathlib.Omega.{arith}
use Rattle.words_digits.specs.Puts.{Puts}
use Rattle.answer.specs.declared.Answer.{Answer}
use Rattle.answer.specs.declared.Answer.TheVariants.{BadLength}
use Rattle.graph.specs.Judgement.{judged_of}
use Rattle.sheet_layout.specs.Layout.{sheet_bytes}
use Rattle.listing_first.specs.Listing.{first_line}
use Rattle.listing.specs.Lists.{text_of, Lists, too_short, told, Prints, too_long, whole}

-- the first n bytes of o are what is printed
abbrev pub Printed : List ℕ → List ℕ → ℕ → Type 0
Printed input o n = (n ≤ length o) × Prints input (take n o)

at_start : (text rest : List ℕ) {input o : List ℕ} {n : ℕ} → o ≡ text ++ rest → n ≡ length text → Prints input text → Printed input o n
at_start text rest {input} {o} {n} e q p =
    (omega (arith, ap length e, length-append text rest), subst (Prints input) (sym (ap (take n) e ∙ take_at text rest n (sym q))) p)

pub long_printed : {input o o' : List ℕ} {n : ℕ} → 13486 < length input → Puts o 0 (first_line BadLength) o' n → Printed input o' n
long_printed {o = o} {n = n} h p =
    let text : List ℕ = first_line BadLength in
    let e : n ≡ length text = omega (arith, p.ends) in
    at_start text (drop (0 + length text) o) p.is e (too_long h)

pub list_printed : {input s s' o o' : List ℕ} {a : Answer} {n : ℕ} → Lists input s s' o o' a n → 46103 ≤ length o → length input ≤ 13486 → length s ≡ sheet_bytes (judged_of input).shape → Printed input o' n
list_printed (too_short h u v y z) few k l = absurd (omega arith)
list_printed {input} {s' = r} {o = o} {a = a} (told h w e z) few k l =
    let text : List ℕ = text_of input a r in
    at_start text (replicate (length o - length text) 0) e z (whole k l w)
