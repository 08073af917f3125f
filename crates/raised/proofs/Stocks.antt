-- The opening stocks of two files, type by type; and a stock of which some types are kept.
use Prim.Native.Nat.{ℕ, ◌≤◌, ◌<◌}
use mathlib.Core.Path.{◌≡◌, refl, sym, ap, ◌∙◌}
use mathlib.Core.Bool.{Bool, true, false, cond}
use mathlib.Core.Logic.{◌⊎◌, inl, inr}
use mathlib.Core.List.{List}
use native.Mathlib.Decide.{dec_lt}
use native.Mathlib.Omega.{arith}
use Rattle.effect_one.specs.declared.Held.{Held}
use Rattle.effect.specs.declared.Stock.{Stock}
use Rattle.effect.specs.Six.{held_at, stock_of, none_held}
use Rattle.effect.specs.Coordinate.{RightsWithin, Coordinate, right, count, type_of, at}
use Rattle.effect.proofs.Bit.{bit_none}
use Rattle.effect.proofs.Six.{stock_at_lem}
use Rattle.effect.proofs.Coordinate.{type_lt, seen, at_seen}
use Rattle.model.specs.Stocks.{permits}
use Rattle.model.proofs.Opening.{Masks}
use Rattle.graph_tables.specs.Trailer.{tables_of}
use Rattle.graph_tables.specs.Fields.{opening_rights, opening_count}
use Rattle.graph_tables.proofs.SameRows.{SameRows, same_tables}
use Rattle.graph_nodes.specs.Nodes.{for_type, opening_in}
use Rattle.graph_nodes.specs.Program.{program_of}
use Rattle.graph_nodes.proofs.Cases.{for_some, for_none}
use Rattle.raised.specs.Opening.{rights_of, count_of}

none_seen : (i : Coordinate) → seen i none_held ≡ 0
none_seen (right k b _ _) = bit_none b
none_seen (count k _) = refl

-- the stock s of the types that are kept, and nothing of the others
abbrev pub keeping : (ℕ → Bool) → Stock → Stock
keeping keep s = stock_of (λ k. cond (keep k) (held_at s k) none_held)

module _ (keep : ℕ → Bool) (s : Stock) (i : Coordinate) where
  at_keeping : {b : Bool} → keep (type_of i) ≡ b → at i (keeping keep s) ≡ seen i (cond b (held_at s (type_of i)) none_held)
  at_keeping e =
      at_seen i (keeping keep s)
      ∙ ap (seen i) (stock_at_lem (λ k. cond (keep k) (held_at s k) none_held) (type_of i) (type_lt i))
      ∙ ap (λ b. seen i (cond b (held_at s (type_of i)) none_held)) e

  pub at_kept : keep (type_of i) ≡ true → at i (keeping keep s) ≡ at i s
  at_kept e = at_keeping e ∙ sym (at_seen i s)

  at_none : keep (type_of i) ≡ false → at i (keeping keep s) ≡ 0
  at_none e = at_keeping e ∙ none_seen i

-- what a file opens with, at a coordinate
abbrev opened : List ℕ → ℕ → Held
opened f k = record { rights = for_type (tables_of f) (opening_rights f (tables_of f)) k; count = for_type (tables_of f) (opening_count f (tables_of f)) k }

opening_at : (f : List ℕ) (i : Coordinate) → at i (program_of f).opening ≡ seen i (opened f (type_of i))
unfolding opening_in
opening_at f i = at_seen i (program_of f).opening ∙ ap (seen i) (stock_at_lem (opened f) (type_of i) (type_lt i))

opening_some : (f : List ℕ) (i : Coordinate) → type_of i < (tables_of f).types → at i (program_of f).opening ≡ seen i (record { rights = rights_of f (type_of i); count = count_of f (type_of i) })
opening_some f i l =
    let t = tables_of f in
    opening_at f i ∙ (λ j. seen i (record { rights = for_some t (opening_rights f t) (type_of i) l j; count = for_some t (opening_count f t) (type_of i) l j }))

opening_none : (f : List ℕ) (i : Coordinate) → (tables_of f).types ≤ type_of i → at i (program_of f).opening ≡ 0
opening_none f i l =
    let t = tables_of f in
    opening_at f i
    ∙ (λ j. seen i (record { rights = for_none t (opening_rights f t) (type_of i) l j; count = for_none t (opening_count f t) (type_of i) l j }))
    ∙ none_seen i

seen_below : (i : Coordinate) (p q c d : ℕ) → RightsWithin p q → c ≤ d → seen i (record { rights = p; count = c }) ≤ seen i (record { rights = q; count = d })
seen_below (right k b _ _) p q c d h l = h b
seen_below (count k _) p q c d h l = omega arith

-- of the types that are kept f opens with at most what g opens with
abbrev pub OpensBelow : (ℕ → Bool) → List ℕ → List ℕ → Type 0
OpensBelow keep f g = (k : ℕ) → k < (tables_of f).types → keep k ≡ true → RightsWithin (rights_of f k) (rights_of g k) × (count_of f k ≤ count_of g k)

module _ {f g : List ℕ} (A : SameRows f g) {keep : ℕ → Bool} (h : OpensBelow keep f g) where
  pub opening_below : (i : Coordinate) → keep (type_of i) ≡ true → at i (program_of f).opening ≤ at i (program_of g).opening
  opening_below i e = elim (dec_lt (type_of i) (tables_of f).types) [
    | yes l ↦
        let b = h (type_of i) l e in
        omega (arith, opening_some f i l, opening_some g i (rw (← same_tables A) l), seen_below i (rights_of f (type_of i)) (rights_of g (type_of i)) (count_of f (type_of i)) (count_of g (type_of i)) b.0 b.1)
    | no l ↦ omega (arith, opening_none f i (omega arith))
  ]

  pub masks : Masks permits (program_of f).opening (program_of g).opening (keeping keep)
  masks i = go (keep (type_of i)) refl
    where
      go : (b : Bool) → keep (type_of i) ≡ b
          → ((at i (program_of f).opening ≤ at i (program_of g).opening) × ((s : Stock) → at i (keeping keep s) ≡ at i s)) ⊎ ((s : Stock) → at i (keeping keep s) ≡ 0)
      go true e = inl (opening_below i e, λ s. at_kept keep s i e)
      go false e = inr (λ s. at_none keep s i e)
