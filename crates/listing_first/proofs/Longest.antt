-- No listing is longer than 512 times 6 lines of 15 bytes after `overdrawn`, a node of three digits, a type of one and a line of five.
use Prim.Native.Nat.{ℕ, ◌+◌, ◌≤◌, ◌<◌}
use mathlib.Core.Path.{◌≡◌, refl, ap, ◌∙◌}
use mathlib.Core.Bool.{Bool, true, false, cond}
use mathlib.Core.List.{List, [], ◌++◌, append-nil}
use lib.ListN.{length, length-append}
use lib.Dec.{eqb}
use borrow.Author.Tests.{eq-eqb, ne_eqb, eqb-true, eqb-false}
use native.Mathlib.Omega.{arith}
use Rattle.words_digits.specs.Text.{ascii, joined}
use Rattle.words_digits.specs.Digits.{decimal}
use Rattle.words_digits.proofs.Lengths.{decimal_five, decimal_three, decimal_one, most}
use Rattle.answer.specs.declared.Answer.{Answer}
use Rattle.answer.specs.Number.{number_of, type_of, place_of, line_of}
use Rattle.effect_one.specs.declared.Held.{Held}
use Rattle.effect_one.specs.Single.{apply_one}
use Rattle.effect.specs.declared.Stock.{Stock}
use Rattle.effect.specs.declared.Effect.{Effect}
use Rattle.effect.specs.Six.{held_at, one_at}
use Rattle.effect.specs.Whole.{apply_of}
use Rattle.effect.proofs.Count.{after_top}
use Rattle.effect.proofs.Laws.{applied_at}
use Rattle.graph_tables.specs.declared.Tables.{Tables}
use Rattle.sheet_layout.specs.declared.Shape.{Shape}
use Rattle.sheet_layout.specs.Layout.{Within}
use Rattle.reach.specs.Node.{is_reached, node_stock}
use Rattle.listing_first.specs.Listing.{first_line, count_text, stock_line, node_lines, is_verdict, listing_of}
use Rattle.listing_first.proofs.Lengths.{line_length, overdrawn_length, refused_length, is_pass, is_overdrawn, is_refused, is_listed, is_unlisted, is_full}

count_three : (count : ℕ) → count ≤ 255 → length (count_text count) ≤ 3
unfolding count_text
count_three count h = go (eqb count 255)
  where
    go : (b : Bool) → length (cond b (ascii "*") (decimal count)) ≤ 3
    go true = omega arith
    go false = decimal_three count (omega arith)

line_few : (n k : ℕ) (h : Held) → n < 1000 → k < 10 → h.count ≤ 255 → length (stock_line n k h) ≤ 15
line_few n k h few one c = omega (arith, line_length n k h, decimal_three n few, decimal_one k one, count_three h.count c)

-- whatever the sheet says, no stock has a count above 255
pub left_count : (e : Effect) (s : Stock) (k : ℕ) → k < 6 → (held_at (apply_of e s) k).count ≤ 255
unfolding apply_one
left_count e s k h =
    omega (arith, ap (λ (x : Held). x.count) (applied_at e s k h), after_top (one_at e k).cap (one_at e k).drop (held_at s k).count)

pub first_few : (a : Answer) → length (first_line a) ≤ 28
first_few a = go (eqb (number_of a) 0) (eqb (number_of a) 13) refl refl
  where
    go : (p q : Bool) → eqb (number_of a) 0 ≡ p → eqb (number_of a) 13 ≡ q → length (first_line a) ≤ 28
    go true q h l = rw (is_pass a (eqb-true (number_of a) 0 h)) (omega arith)
    go false true h l =
        rw (is_overdrawn a (eqb-false (number_of a) 0 h) (eqb-true (number_of a) 13 l))
        (omega (arith, overdrawn_length (place_of a) (type_of a) (line_of a), decimal_five (place_of a), decimal_five (type_of a), decimal_five (line_of a)))
    go false false h l =
        rw (is_refused a (eqb-false (number_of a) 0 h) (eqb-false (number_of a) 13 l))
        (omega (arith, refused_length (number_of a) (place_of a), decimal_five (number_of a), decimal_five (place_of a)))

module _ (a : Answer) (f : List ℕ) (t : Tables) (x : Shape) (s : List ℕ) where
  -- where there are no nodes, the first line is all
  pub bare : x.nodes ≡ 0 → listing_of a f t x s ≡ first_line a
  unfolding listing_of joined
  bare z = rw z (go (is_verdict a) ∙ append-nil (first_line a))
    where
      go : (b : Bool) → first_line a ++ cond b [] [] ≡ first_line a ++ []
      go true = refl
      go false = refl

  module _ (within : Within x) where
    node_few : (n : ℕ) → n < x.nodes → length (node_lines f t x s n) ≤ 90
    node_few n h = go (is_reached f t x s n) refl
      where
        held : Stock
        held = node_stock f t x s n

        go : (b : Bool) → is_reached f t x s n ≡ b → length (node_lines f t x s n) ≤ 90
        go true q =
            rw (is_listed f t x s n refl q refl)
            (most (λ k. stock_line n k (held_at held k)) 15 x.types 6 within.few_types
            (λ k l. line_few n k (held_at held k) (omega (arith, within.few_nodes)) (omega (arith, within.few_types))
            (left_count _ _ k (omega (arith, within.few_types)))))
        go false q = rw (is_unlisted f t x s n refl q) (omega arith)

    nodes_few : length (joined (node_lines f t x s) x.nodes) ≤ 46080
    nodes_few = most (node_lines f t x s) 90 x.nodes 512 within.few_nodes node_few

    full : is_verdict a ≡ true → length (listing_of a f t x s) ≡ length (first_line a) + length (joined (node_lines f t x s) x.nodes)
    full q = ap length (is_full a f t x s q) ∙ length-append (first_line a) (joined (node_lines f t x s) x.nodes)

    pub pass_few : number_of a ≡ 0 → length (listing_of a f t x s) ≤ 46102
    pass_few h = omega (arith, full (rw (eq-eqb (number_of a) 0 h) refl), nodes_few, ap length (is_pass a h))

    pub overdrawn_few : number_of a ≡ 13 → place_of a < 512 → type_of a < 6 → length (listing_of a f t x s) ≤ 46102
    overdrawn_few h l k =
        let z : number_of a ≡ 0 → ⊥ = λ e. omega arith in
        omega (
          arith,
          full (rw (ne_eqb (number_of a) 0 z, eq-eqb (number_of a) 13 h) refl),
          nodes_few,
          ap length (is_overdrawn a z h),
          overdrawn_length (place_of a) (type_of a) (line_of a),
          decimal_three (place_of a) (omega arith),
          decimal_one (type_of a) (omega arith),
          decimal_five (line_of a),
        )
