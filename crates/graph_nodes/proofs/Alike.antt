-- The nodes of two files with the same rows do the same; and with the same opening rows the files start with the same stock.
use Prim.Native.Nat.{ℕ, ◌<◌}
use mathlib.Core.Path.{◌≡◌, sym, ap, ◌∙◌}
use mathlib.Core.List.{List}
use native.Mathlib.Decide.{dec_lt}
use native.Mathlib.Omega.{arith}
use Rattle.effect.specs.Six.{six}
use Rattle.graph_tables.specs.declared.Tables.{Tables}
use Rattle.graph_tables.specs.Trailer.{tables_of}
use Rattle.graph_tables.specs.Fields.{opening_rights, opening_count}
use Rattle.graph_tables.proofs.SameRows.{SameRows, SameOpening, same_tables, same_fields, same_opening_rights, same_opening_count}
use Rattle.graph_nodes.specs.Nodes.{does_in, for_type, opening_in}
use Rattle.graph_nodes.specs.Program.{program_of}
use Rattle.graph_nodes.proofs.Cases.{does_outside, for_some, for_none}

-- numbers for the types that a file has, the same below T
for_type_same : (t : Tables) (x y : ℕ → ℕ) → ((k : ℕ) → k < t.types → x k ≡ y k) → (k : ℕ) → for_type t x k ≡ for_type t y k
for_type_same t x y h k = elim (dec_lt k t.types) [
  | yes l ↦ for_some t x k l ∙ h k l ∙ sym (for_some t y k l)
  | no l ↦ for_none t x k (omega arith) ∙ sym (for_none t y k (omega arith))
]

module _ (f g : List ℕ) (A : SameRows f g) where
  abbrev t : Tables
  t = tables_of f

  does_in_same : (n : ℕ) → does_in f t n ≡ does_in g t n
  unfolding does_in
  does_in_same n = elim (dec_lt n t.nodes) [
    | yes l ↦ let S = same_fields f g A in simp (S.kind n l, S.number n l, S.rights n l, S.count n l)
    | no l ↦ does_outside f t n (omega arith) ∙ sym (does_outside g t n (omega arith))
  ]

  pub same_does : (n : ℕ) → (program_of f).does n ≡ (program_of g).does n
  same_does n = does_in_same n ∙ ap (λ u. does_in g u n) (same_tables A)

  pub same_opening : SameOpening f g → (program_of f).opening ≡ (program_of g).opening
  unfolding opening_in
  same_opening B =
      let r = for_type_same t (opening_rights f t) (opening_rights g t) (λ k l. same_opening_rights f g A B k) in
      let c = for_type_same t (opening_count f t) (opening_count g t) (λ k l. same_opening_count f g A B k) in
      (λ i. record { rights = six (λ k. r k i); counts = six (λ k. c k i) }) ∙ ap (opening_in g) (same_tables A)
