-- "The listing": what is printed of a file, as a list of bytes, over the answer and the sheet.
use Rattle.std.specs.Prelude.{ℕ, Bool, cond, ◌||◌, List, [], ◌++◌, eqb}
use Rattle.words_digits.specs.Text.{ascii, joined}
use Rattle.words_digits.specs.Digits.{decimal, four_hex}
use Rattle.answer.specs.declared.Answer.{Answer}
use Rattle.answer.specs.Number.{number_of, type_of, place_of, line_of}
use Rattle.effect_one.specs.declared.Held.{Held}
use Rattle.effect.specs.declared.Stock.{Stock}
use Rattle.effect.specs.Six.{held_at}
use Rattle.graph_tables.specs.declared.Tables.{Tables}
use Rattle.sheet_layout.specs.declared.Shape.{Shape}
use Rattle.reach.specs.Node.{is_reached, node_stock}

-- "First line `pass`, `overdrawn` and the node, or `refused`, the number and the place." After the node stands the type: "The listing's
-- first line becomes `overdrawn 3 0`." And it "ends with" the line.
unfoldable pub overdrawn_line : ℕ → ℕ → ℕ → List ℕ
overdrawn_line node type line = ascii "overdrawn " ++ decimal node ++ ascii " " ++ decimal type ++ ascii " " ++ decimal line ++ ascii "\n"

unfoldable pub refused_line : ℕ → ℕ → List ℕ
refused_line number place = ascii "refused " ++ decimal number ++ ascii " " ++ decimal place ++ ascii "\n"

unfoldable pub first_line : Answer → List ℕ
first_line a =
    cond (eqb (number_of a) 0)
    (ascii "pass\n")
    (cond (eqb (number_of a) 13)
    (overdrawn_line (place_of a) (type_of a) (line_of a))
    (refused_line (number_of a) (place_of a)))

-- "count in decimal or `*`": 255 is endless
unfoldable pub count_text : ℕ → List ℕ
count_text count = cond (eqb count 255) (ascii "*") (decimal count)

-- "node, type, rights as four lower-case hex digits, count in decimal or `*`. Single blanks; each line ends in a line feed."
unfoldable pub stock_line : ℕ → ℕ → Held → List ℕ
stock_line n k h =
    decimal n ++ ascii " " ++ decimal k ++ ascii " " ++ four_hex h.rights ++ ascii " " ++ count_text h.count ++ ascii "\n"

-- a line for each type of node n, at which the stock is held
abbrev pub stock_lines : ℕ → Stock → ℕ → List ℕ
stock_lines n held types = joined (λ k. stock_line n k (held_at held k)) types

-- "one line for each reached node and type": those of node n of the file f, by the sheet s
unfoldable pub node_lines : List ℕ → Tables → Shape → List ℕ → ℕ → List ℕ
node_lines f t x s n = cond (is_reached f t x s n) (stock_lines n (node_stock f t x s n) x.types) []

-- "0 and 13 are verdicts, the others refusals."
abbrev pub is_verdict : Answer → Bool
is_verdict a = eqb (number_of a) 0 || eqb (number_of a) 13

-- "After pass or overdrawn, one line for each reached node and type, ascending"
unfoldable pub listing_of : Answer → List ℕ → Tables → Shape → List ℕ → List ℕ
listing_of a f t x s = first_line a ++ cond (is_verdict a) (joined (node_lines f t x s) x.nodes) []
