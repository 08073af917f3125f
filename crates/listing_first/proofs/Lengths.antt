-- How long the texts are: the sum of their parts, and the cases of each.
use Prim.Native.Nat.{ℕ, ◌+◌, ◌≤◌}
use mathlib.Core.Path.{◌≡◌, sym, ap, ◌∙◌}
use mathlib.Core.Bool.{Bool, true, false}
use mathlib.Core.List.{List, [], ◌++◌, append-nil}
use lib.ListN.{length, length-append}
use borrow.Author.Tests.{eq-eqb, ne_eqb}
use native.Mathlib.Omega.{arith}
use Rattle.words_digits.specs.Text.{ascii, joined}
use Rattle.words_digits.specs.Digits.{decimal}
use Rattle.answer.specs.declared.Answer.{Answer}
use Rattle.answer.specs.Number.{number_of, type_of, place_of, line_of}
use Rattle.effect_one.specs.declared.Held.{Held}
use Rattle.effect.specs.declared.Stock.{Stock}
use Rattle.graph_tables.specs.declared.Tables.{Tables}
use Rattle.sheet_layout.specs.declared.Shape.{Shape}
use Rattle.reach.specs.Node.{is_reached, node_stock}
use Rattle.listing_first.specs.Listing.{overdrawn_line, refused_line, first_line, count_text, stock_line, stock_lines, node_lines, is_verdict, listing_of}

pub line_length : (n k : ℕ) (h : Held)
    → length (stock_line n k h) ≡ length (decimal n) + 1 + length (decimal k) + 1 + 4 + 1 + length (count_text h.count) + 1
unfolding stock_line
line_length n k h = simp length-append

pub overdrawn_length : (node type line : ℕ)
    → length (overdrawn_line node type line) ≡ 10 + length (decimal node) + 1 + length (decimal type) + 1 + length (decimal line) + 1
unfolding overdrawn_line
overdrawn_length node type line = simp length-append

pub refused_length : (number place : ℕ) → length (refused_line number place) ≡ 8 + length (decimal number) + 1 + length (decimal place) + 1
unfolding refused_line
refused_length number place = simp length-append

-- the three first lines
module _ (a : Answer) where
  pub is_pass : number_of a ≡ 0 → first_line a ≡ ascii "pass\n"
  unfolding first_line
  is_pass h = rw (eq-eqb (number_of a) 0 h)

  pub is_overdrawn : (number_of a ≡ 0 → ⊥) → number_of a ≡ 13 → first_line a ≡ overdrawn_line (place_of a) (type_of a) (line_of a)
  unfolding first_line
  is_overdrawn z h = rw (ne_eqb (number_of a) 0 z, eq-eqb (number_of a) 13 h)

  pub is_refused : (number_of a ≡ 0 → ⊥) → (number_of a ≡ 13 → ⊥) → first_line a ≡ refused_line (number_of a) (place_of a)
  unfolding first_line
  is_refused z h = rw (ne_eqb (number_of a) 0 z, ne_eqb (number_of a) 13 h)

-- the lines of a node
module _ (f : List ℕ) (t : Tables) (x : Shape) (s : List ℕ) (n : ℕ) where
  pub is_listed : {r : Bool} {held : Stock} → r ≡ is_reached f t x s n → r ≡ true → held ≡ node_stock f t x s n
      → node_lines f t x s n ≡ stock_lines n held x.types
  unfolding node_lines
  is_listed q h e = rw (sym q ∙ h) (ap (λ (z : Stock). stock_lines n z x.types) (sym e))

  pub is_unlisted : {r : Bool} → r ≡ is_reached f t x s n → r ≡ false → node_lines f t x s n ≡ []
  unfolding node_lines
  is_unlisted q h = rw (sym q ∙ h)

-- the whole listing
module _ (a : Answer) (f : List ℕ) (t : Tables) (x : Shape) (s : List ℕ) where
  pub is_full : is_verdict a ≡ true → listing_of a f t x s ≡ first_line a ++ joined (node_lines f t x s) x.nodes
  unfolding listing_of
  is_full h = rw h

  pub is_short : is_verdict a ≡ false → listing_of a f t x s ≡ first_line a
  unfolding listing_of
  is_short h = rw h (append-nil (first_line a))

  pub first_fits : length (first_line a) ≤ length (listing_of a f t x s)
  unfolding listing_of
  first_fits = simp length-append (omega arith)
