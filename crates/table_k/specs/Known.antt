-- When a row of the table is true.
use Rattle.std.specs.Prelude.{ℕ, ◌≡◌, List, [], ◌∷◌, length, get_or}
use Rattle.answer.specs.declared.Answer.{Answer}
use Rattle.answer.specs.Number.{Says}
use Rattle.effect.specs.declared.Stock.{Stock}
use Rattle.effect.specs.Meaning.{AtMost}
use Rattle.graph_nodes.specs.Program.{Brings}
use Rattle.sheet_layout.specs.Layout.{sheet_bytes}
use Rattle.rule_test.specs.Sheet.{shape}
use Rattle.work.specs.Meaning.{WorksOut}
use Rattle.table_k.specs.File.{file_bytes}
use Rattle.table_k.specs.Table.{Claim, passes, overdrawn, unreached, has, at_most, not_at_most}

-- Of the file f and any sheet of the right length, work out answers with this number, this type, this place and this line, and with no other.
abbrev pub Answers : List ℕ → ℕ → ℕ → ℕ → ℕ → Type 0
Answers f number type place line = (s r : List ℕ) (a : Answer) → length s ≡ sheet_bytes (shape f) → WorksOut f s r a → Says a number type place line

abbrev pub Known : Claim → Type 0
Known (passes g) = Answers (file_bytes g) 0 0 0 0
Known (overdrawn g n k l) = Answers (file_bytes g) 13 k n l
Known (unreached g n) = (h : Stock) → Brings (file_bytes g) n h → ⊥
Known (has e i m c d) = (get_or e.keepin 0 0 ≡ i) × (get_or e.keepmax 0 0 ≡ m) × (get_or e.cap 0 0 ≡ c) × (get_or e.drop 0 0 ≡ d)
Known (at_most a b) = AtMost a b
Known (not_at_most a b) = AtMost a b → ⊥

-- every row of a table is true
abbrev pub AllKnown : List (ℕ × Claim) → Type 0
AllKnown [] = Unit {0}
AllKnown (r ∷ t) = Known r.1 × AllKnown t
