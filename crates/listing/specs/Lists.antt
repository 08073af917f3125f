-- What the listing of a file is, what is promised of the operation that writes it, and what the program prints.
use Rattle.std.specs.Prelude.{ℕ, ◌-◌, ◌≤◌, ◌<◌, ◌≡◌, List, ◌++◌, length, replicate}
use Rattle.answer.specs.declared.Answer.{Answer}
use Rattle.answer.specs.declared.Answer.TheVariants.{BadLength}
use Rattle.answer.specs.Number.{Says}
use Rattle.graph_tables.specs.Trailer.{tables_of}
use Rattle.graph.specs.Judgement.{judged_of}
use Rattle.sheet_layout.specs.Layout.{sheet_bytes}
use Rattle.listing_first.specs.Listing.{first_line, listing_of}
use Rattle.work.specs.Meaning.{WorksOut}

-- the listing of the file f, of which the answer is a and the sheet r
abbrev pub text_of : List ℕ → Answer → List ℕ → List ℕ
text_of f a r = listing_of a f (tables_of f) (judged_of f).shape r

-- n bytes: the text, and 0 behind it
abbrev pub padded : List ℕ → ℕ → List ℕ
padded text n = text ++ replicate (n - length text) 0

-- The answer and the length of the text. The lent sheet was s and is s', the lent output was o and is o'.
pub data Lists (f s s' o o' : List ℕ) (a : Answer) (n : ℕ) : Type 0 where
  -- 26: the output has fewer bytes than any listing and a 0 may take; sheet and output are as they were
  too_short : length o < 46103 → s' ≡ s → o' ≡ o → Says a 26 0 0 0 → n ≡ 0 → Lists f s s' o o' a n
  -- else the file is worked out in the sheet, and the output is the listing of what was found, and 0 behind it
  told : 46103 ≤ length o → WorksOut f s s' a → o' ≡ padded (text_of f a s') (length o) → n ≡ length (text_of f a s') → Lists f s s' o o' a n

-- What the program prints of its input.
pub data Prints (input : List ℕ) : List ℕ → Type 0 where
  -- "For input longer than" the longest file, 13,486 bytes with parents and lines, "the program prints `refused 3 0`"
  too_long : 13486 < length input → Prints input (first_line BadLength)
  -- else the listing of what is worked out, in a sheet of the length that the file asks for
  whole : length input ≤ 13486 → {s r : List ℕ} {a : Answer} → length s ≡ sheet_bytes (judged_of input).shape → WorksOut input s r a → Prints input (text_of input a r)
