-- The packed number determines number, type, place and line.
use Prim.Native.Nat.{◌/◌, ◌%◌, ◌<◌}
use mathlib.Core.Path.{◌≡◌, sym, ◌∙◌}
use native.Mathlib.Omega.{arith}
use Rattle.answer.specs.declared.Answer.{Answer}
use Rattle.answer.specs.declared.Answer.TheVariants.{Pass, TooShort, BadCount, BadLength, BadEntry, BadNode, BadFlow, BadCall, BadCatch, BadOpening, BadSheet, BadBlock, Broken, Overdrawn, Unfit, BadParent, NoCallRow, BadArea, BadRow, OutputShort}
use Rattle.answer.specs.Number.{number_of, type_of, place_of, line_of, packed_of}
use Rattle.answer.proofs.Settled.{answer_of, found}

pub number_small : (a : Answer) → number_of a < 256
number_small Pass = omega arith
number_small TooShort = omega arith
number_small (BadCount i) = omega arith
number_small BadLength = omega arith
number_small (BadEntry k) = omega arith
number_small (BadNode k l) = omega arith
number_small (BadFlow k) = omega arith
number_small (BadCall k) = omega arith
number_small (BadCatch k) = omega arith
number_small (BadOpening k) = omega arith
number_small BadSheet = omega arith
number_small (BadBlock w) = omega arith
number_small (Broken r k) = omega arith
number_small (Overdrawn n k l) = omega arith
number_small (Unfit n l) = omega arith
number_small (BadParent e) = omega arith
number_small (NoCallRow n l) = omega arith
number_small BadArea = omega arith
number_small BadRow = omega arith
number_small OutputShort = omega arith

pub number_unpacked : (a : Answer) → packed_of a % 256 ≡ number_of a
number_unpacked a = omega (arith, number_small a)

-- a type has 8 bits
pub type_unpacked : (a : Answer) → type_of a < 256 → packed_of a / 256 % 256 ≡ type_of a
type_unpacked a h = omega (arith, number_small a)

-- a place 24
pub place_unpacked : (a : Answer) → type_of a < 256 → place_of a < 16777216 → packed_of a / 65536 % 16777216 ≡ place_of a
place_unpacked a k h = omega (arith, number_small a)

-- and a line 16
pub line_unpacked : (a : Answer) → type_of a < 256 → place_of a < 16777216 → line_of a < 65536 → packed_of a / 1099511627776 % 65536 ≡ line_of a
line_unpacked a k p h = omega (arith, number_small a)

-- only a pass has the number 0
pub zero_pass : (a : Answer) → number_of a ≡ 0 → a ≡ Pass
zero_pass a h = sym (found a) ∙ (λ i. answer_of (h i) (type_of a) (place_of a) (line_of a))
