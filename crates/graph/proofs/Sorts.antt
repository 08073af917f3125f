-- The kind of a node decides what it is in the graph: it goes on, calls, returns or throws, and only one of them.
use mathlib.Core.Path.{◌≡◌, refl}
use mathlib.Core.Bool.{Bool, true, false}
use mathlib.Core.Logic.{◌⊎◌, inl, inr}
use mathlib.Core.List.{List}
use Prim.Native.Nat.{ℕ, ◌<◌}
use native.Mathlib.Omega.{arith}
use lib.Dec.{leb, eqb}
use borrow.Author.Tests.{leb-true, leb-false, eqb-true, eqb-false}
use Rattle.graph_tables.specs.declared.Tables.{Tables}
use Rattle.graph_tables.specs.Kinds.{draw_kind, call_kind, return_kind, throw_kind}
use Rattle.graph_tables.specs.Fields.{node_kind, node_number}
use Rattle.graph.specs.Graph.{graph_in}
use Rattle.graph.proofs.Passed.{Judged}
use Rattle.graph_refuse.proofs.Fit.{node_fit}

module _ (f : List ℕ) (t : Tables) (n : ℕ) (l : n < t.nodes) where
  pub goes : leb (node_kind f t n) draw_kind ≡ true → (graph_in f t).Goes n
  goes h = (l, leb-true _ _ h)

  pub calls : eqb (node_kind f t n) call_kind ≡ true → (graph_in f t).Call n
  calls h = (l, eqb-true _ _ h)

  pub returns : eqb (node_kind f t n) return_kind ≡ true → (graph_in f t).Return n
  returns h = (l, eqb-true _ _ h)

  pub throws : eqb (node_kind f t n) throw_kind ≡ true → (graph_in f t).Throw n (node_number f t n)
  throws h = ((l, eqb-true _ _ h), refl)

  -- a file that passes has no other kind
  pub sorts : Judged f t → (graph_in f t).Goes n ⊎ ((graph_in f t).Call n ⊎ ((graph_in f t).Return n ⊎ (graph_in f t).Throw n (node_number f t n)))
  sorts j = go (leb (node_kind f t n) draw_kind) refl (eqb (node_kind f t n) call_kind) refl (eqb (node_kind f t n) return_kind) refl
    where
      go : (a : Bool) → leb (node_kind f t n) draw_kind ≡ a → (b : Bool) → eqb (node_kind f t n) call_kind ≡ b → (c : Bool) → eqb (node_kind f t n) return_kind ≡ c → (graph_in f t).Goes n ⊎ ((graph_in f t).Call n ⊎ ((graph_in f t).Return n ⊎ (graph_in f t).Throw n (node_number f t n)))
      go true p b q c r = inl (goes p)
      go false p true q c r = inr (inl (calls q))
      go false p false q true r = inr (inr (inl (returns r)))
      go false p false q false r =
          let w : draw_kind < node_kind f t n = leb-false _ _ p in
          let x : node_kind f t n ≡ call_kind → ⊥ = eqb-false _ _ q in
          let y : node_kind f t n ≡ return_kind → ⊥ = eqb-false _ _ r in
          inr (inr (inr ((l, omega (arith, (node_fit f t n (j.nodes n l)).kind)), refl)))
