-- What the looks share: each gives the lowest node that a row of its table convicts.
use Prim.Native.Nat.{ℕ, ◌<◌, ◌≤◌}
use mathlib.Core.Path.{◌≡◌, refl, sym, ◌∙◌}
use mathlib.Core.Bool.{Bool, true, false}
use mathlib.Core.List.{List}
use native.Mathlib.Omega.{arith}
use Rattle.words.specs.Least.{least_of}
use Rattle.words.proofs.Least.{least_under, least_hit}
use Rattle.graph_tables.specs.declared.Tables.{Tables}
use Rattle.profile_looks.specs.declared.Look.{Look}
use Rattle.profile_looks.specs.Looks.{rows_of, node_of, convicts, convicted, lowest_of}

-- some row of the look's table convicts the node n
abbrev pub Convicted : List ℕ → Tables → Look → ℕ → Type 0
Convicted f t look n = (k : ℕ) × (k < rows_of t look) × (convicts f t look k ≡ true) × (node_of f t look k ≡ n)

module _ (f : List ℕ) (t : Tables) (look : Look) where
  by_row : (k : ℕ) → convicts f t look k ≡ true → convicted f t look k ≡ node_of f t look k
  unfolding convicted
  by_row k e = simp e

  by_none : (k : ℕ) → convicts f t look k ≡ false → convicted f t look k ≡ t.nodes
  unfolding convicted
  by_none k e = simp e

  -- at most each node that is convicted,
  pub under : (n : ℕ) → Convicted f t look n → lowest_of f t look ≤ n
  unfolding lowest_of
  under n (k, l, e, q) = omega (arith, least_under t.nodes (convicted f t look) (rows_of t look) k l, by_row k e, q)

  -- and one that is, where it is a node
  pub hit : lowest_of f t look < t.nodes → Convicted f t look (lowest_of f t look)
  unfolding lowest_of
  hit l = go (convicts f t look h.0) refl
    where
      h : (k : ℕ) × (k < rows_of t look) × (convicted f t look k ≡ least_of t.nodes (convicted f t look) (rows_of t look))
      h = least_hit t.nodes (convicted f t look) (rows_of t look) l

      go : (b : Bool) → convicts f t look h.0 ≡ b → Convicted f t look (least_of t.nodes (convicted f t look) (rows_of t look))
      go true e = (h.0, h.1, e, sym (by_row h.0 e) ∙ h.2)
      go false e = absurd (omega (arith, by_none h.0 e, h.2))
