-- What each answer says, as the table "What comes back" and the change requests give it: number, type, place and line, and all in one number.
use Rattle.std.specs.Prelude.{ℕ, ◌+◌, ◌*◌, ◌≡◌}
use Rattle.answer.specs.declared.Answer.{Answer}
use Rattle.answer.specs.declared.Answer.TheVariants.{Pass, TooShort, BadCount, BadLength, BadEntry, BadNode, BadFlow, BadCall, BadCatch, BadOpening, BadSheet, BadBlock, Broken, Overdrawn, Unfit, BadParent, NoCallRow, BadArea, BadRow, OutputShort}

pub record Said : Type 0 where
  pub number : ℕ
  pub type : ℕ
  pub place : ℕ
  pub line : ℕ

abbrev pub said : ℕ → ℕ → ℕ → ℕ → Said
said n k p l = record { number = n; type = k; place = p; line = l }

abbrev pub said_of : Answer → Said
-- pass
said_of Pass = said 0 0 0 0
-- fewer than 14 bytes
said_of TooShort = said 1 0 0 0
-- a trailer count outside its limits: which count, 0 to 5
said_of (BadCount i) = said 2 0 i 0
-- distance is not the sum, or file length is not distance + 14
said_of BadLength = said 3 0 0 0
-- the lowest row refused: of the methods, the nodes with its line, the flow, the calls, the catches, the opening stock
said_of (BadEntry k) = said 4 0 k 0
said_of (BadNode k l) = said 5 0 k l
said_of (BadFlow k) = said 6 0 k 0
said_of (BadCall k) = said 7 0 k 0
said_of (BadCatch k) = said 8 0 k 0
said_of (BadOpening k) = said 9 0 k 0
-- the sheet's length is wrong
said_of BadSheet = said 10 0 0 0
-- check only: a sheet block is ill formed; first word of the lowest such block
said_of (BadBlock w) = said 11 0 w 0
-- check only: a sheet rule is broken; the lowest rule number, and the type that fails
said_of (Broken r k) = said 12 k r 0
-- overdrawn: lowest reached node whose draw is not covered, the type drawn, and the node's line
said_of (Overdrawn n k l) = said 13 k n l
-- profile not met: lowest node that breaks it, and its line
said_of (Unfit n l) = said 14 0 n l
-- a parent neither lower nor 255: lowest such kind
said_of (BadParent e) = said 15 0 e 0
-- a call without a call row: lowest such node, and its line
said_of (NoCallRow n l) = said 17 0 n l
-- queue engine only: the area has another length
said_of BadArea = said 23 0 0 0
-- the sheets are not 1 to 20 whole ones, or the row has not two numbers a sheet
said_of BadRow = said 24 0 0 0
-- the lent output is too short
said_of OutputShort = said 26 0 0 0

abbrev pub number_of : Answer → ℕ
number_of a = (said_of a).number

abbrev pub type_of : Answer → ℕ
type_of a = (said_of a).type

abbrev pub place_of : Answer → ℕ
place_of a = (said_of a).place

abbrev pub line_of : Answer → ℕ
line_of a = (said_of a).line

-- the answer has this number, this type, this place and this line
pub record Says (a : Answer) (number type place line : ℕ) : Type 0 where
  pub number_is : number_of a ≡ number
  pub type_is : type_of a ≡ type
  pub place_is : place_of a ≡ place
  pub line_is : line_of a ≡ line

-- those of the answer b
abbrev pub SaysAs : Answer → Answer → Type 0
SaysAs a b = Says a (number_of b) (type_of b) (place_of b) (line_of b)

-- number in bits 0 to 7, type in 8 to 15, place in 16 to 39, line in 40 to 55
abbrev pub packed_of : Answer → ℕ
packed_of a = number_of a + 256 * type_of a + 65536 * place_of a + 1099511627776 * line_of a
