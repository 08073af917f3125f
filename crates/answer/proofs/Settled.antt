-- Number, type, place and line settle the answer.
use Prim.Native.Nat.{ℕ}
use mathlib.Core.Path.{◌≡◌, refl, sym, ◌∙◌}
use mathlib.Core.Bool.{cond}
use lib.Dec.{eqb}
use Rattle.answer.specs.declared.Answer.{Answer}
use Rattle.answer.specs.declared.Answer.TheVariants.{Pass, TooShort, BadCount, BadLength, BadEntry, BadNode, BadFlow, BadCall, BadCatch, BadOpening, BadSheet, BadBlock, Broken, Overdrawn, Unfit, BadParent, NoCallRow, BadArea, BadRow, OutputShort}
use Rattle.answer.specs.Number.{number_of, type_of, place_of, line_of, SaysAs}

-- the answer that has the number, the type, the place and the line
abbrev pub answer_of : ℕ → ℕ → ℕ → ℕ → Answer
answer_of n k p l =
    cond (eqb n 0) Pass
    (cond (eqb n 1) TooShort
    (cond (eqb n 2) (BadCount p)
    (cond (eqb n 3) BadLength
    (cond (eqb n 4) (BadEntry p)
    (cond (eqb n 5) (BadNode p l)
    (cond (eqb n 6) (BadFlow p)
    (cond (eqb n 7) (BadCall p)
    (cond (eqb n 8) (BadCatch p)
    (cond (eqb n 9) (BadOpening p)
    (cond (eqb n 10) BadSheet
    (cond (eqb n 11) (BadBlock p)
    (cond (eqb n 12) (Broken p k)
    (cond (eqb n 13) (Overdrawn p k l)
    (cond (eqb n 14) (Unfit p l)
    (cond (eqb n 15) (BadParent p)
    (cond (eqb n 17) (NoCallRow p l)
    (cond (eqb n 23) BadArea
    (cond (eqb n 24) BadRow
    OutputShort))))))))))))))))))

pub found : (a : Answer) → answer_of (number_of a) (type_of a) (place_of a) (line_of a) ≡ a
found Pass = refl
found TooShort = refl
found (BadCount i) = refl
found BadLength = refl
found (BadEntry k) = refl
found (BadNode k l) = refl
found (BadFlow k) = refl
found (BadCall k) = refl
found (BadCatch k) = refl
found (BadOpening k) = refl
found BadSheet = refl
found (BadBlock w) = refl
found (Broken r k) = refl
found (Overdrawn n k l) = refl
found (Unfit n l) = refl
found (BadParent e) = refl
found (NoCallRow n l) = refl
found BadArea = refl
found BadRow = refl
found OutputShort = refl

pub settled : (a b : Answer) → number_of a ≡ number_of b → type_of a ≡ type_of b → place_of a ≡ place_of b → line_of a ≡ line_of b → a ≡ b
settled a b p q r l = sym (found a) ∙ (λ i. answer_of (p i) (q i) (r i) (l i)) ∙ found b

-- so what an answer says is said by no other
pub says_only : {a : Answer} (b : Answer) → SaysAs a b → a ≡ b
says_only {a} b h = settled a b h.number_is h.type_is h.place_is h.line_is

-- an answer says its own number, type, place and line
pub says : (a : Answer) → SaysAs a a
says a = record { number_is = refl; type_is = refl; place_is = refl; line_is = refl }
