-- No byte of a listing is 0.
use Prim.Native.Nat.{ℕ}
use mathlib.Core.Path.{refl}
use mathlib.Core.Bool.{Bool, true, false, cond}
use mathlib.Core.List.{List, []}
use lib.Dec.{eqb}
use Rattle.words_digits.specs.Text.{ascii, joined}
use Rattle.words_digits.specs.Digits.{decimal}
use Rattle.words_digits.proofs.Shown.{Shown, none, is_shown, shown, ◌and◌, shown_joined, shown_decimal, shown_hex}
use Rattle.answer.specs.declared.Answer.{Answer}
use Rattle.answer.specs.Number.{number_of, type_of, place_of, line_of}
use Rattle.effect_one.specs.declared.Held.{Held}
use Rattle.effect.specs.Six.{held_at}
use Rattle.graph_tables.specs.declared.Tables.{Tables}
use Rattle.sheet_layout.specs.declared.Shape.{Shape}
use Rattle.reach.specs.Node.{is_reached, node_stock}
use Rattle.listing_first.specs.Listing.{overdrawn_line, refused_line, first_line, count_text, stock_line, stock_lines, node_lines, is_verdict, listing_of}

blank : Shown (ascii " ")
unfolding is_shown
blank = shown (ascii " ") refl

feed : Shown (ascii "\n")
unfolding is_shown
feed = shown (ascii "\n") refl

shown_count : (count : ℕ) → Shown (count_text count)
unfolding count_text is_shown
shown_count count = go (eqb count 255)
  where
    go : (b : Bool) → Shown (cond b (ascii "*") (decimal count))
    go true = shown (ascii "*") refl
    go false = shown_decimal count

shown_line : (n k : ℕ) (h : Held) → Shown (stock_line n k h)
unfolding stock_line
shown_line n k h = shown_decimal n and blank and shown_decimal k and blank and shown_hex h.rights and blank and shown_count h.count and feed

shown_nodes : (f : List ℕ) (t : Tables) (x : Shape) (s : List ℕ) (n : ℕ) → Shown (node_lines f t x s n)
unfolding node_lines
shown_nodes f t x s n = go (is_reached f t x s n)
  where
    go : (b : Bool) → Shown (cond b (stock_lines n (node_stock f t x s n) x.types) [])
    go true = shown_joined (λ k. stock_line n k (held_at (node_stock f t x s n) k)) (λ k. shown_line n k (held_at (node_stock f t x s n) k)) x.types
    go false = none

shown_first : (a : Answer) → Shown (first_line a)
unfolding first_line overdrawn_line refused_line is_shown
shown_first a = go (eqb (number_of a) 0) (eqb (number_of a) 13)
  where
    go : (p q : Bool) → Shown (cond p (ascii "pass\n") (cond q (overdrawn_line (place_of a) (type_of a) (line_of a)) (refused_line (number_of a) (place_of a))))
    go true q = shown (ascii "pass\n") refl
    go false true = shown (ascii "overdrawn ") refl and shown_decimal (place_of a) and blank and shown_decimal (type_of a) and blank and shown_decimal (line_of a) and feed
    go false false = shown (ascii "refused ") refl and shown_decimal (number_of a) and blank and shown_decimal (place_of a) and feed

pub shown_listing : (a : Answer) (f : List ℕ) (t : Tables) (x : Shape) (s : List ℕ) → Shown (listing_of a f t x s)
unfolding listing_of
shown_listing a f t x s = shown_first a and go (is_verdict a)
  where
    go : (b : Bool) → Shown (cond b (joined (node_lines f t x s) x.nodes) [])
    go true = shown_joined (node_lines f t x s) (shown_nodes f t x s) x.nodes
    go false = none
