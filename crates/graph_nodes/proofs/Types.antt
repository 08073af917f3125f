-- The steps of a file's nodes and its opening stock are of the file's types: nothing is done to a further type, and nothing held of it.
use Prim.Native.Nat.{ℕ, ◌≤◌, ◌<◌}
use mathlib.Core.Path.{◌≡◌, sym, subst}
use mathlib.Core.List.{List}
use native.Mathlib.Decide.{ℕ_discrete, dec_lt}
use native.Mathlib.Omega.{arith}
use Rattle.words.proofs.Read.{word_lt}
use Rattle.effect.proofs.Types.{EffectOf, StockOf, stock_of_fits, nothing_of, draw_of_fits, grant_of_fits}
use Rattle.model.specs.Stocks.{Does, plain, step_of}
use Rattle.answer.specs.declared.Answer.TheVariants.{Pass}
use Rattle.graph_tables.specs.declared.Tables.{Tables}
use Rattle.graph_tables.specs.Trailer.{tables_of}
use Rattle.graph_tables.specs.Kinds.{grant_kind, draw_kind}
use Rattle.graph_tables.specs.Fields.{node_kind, node_rights, opening_rights, opening_count}
use Rattle.graph_refuse.proofs.Fit.{node_fit, opening_fit}
use Rattle.graph.specs.Judge.{judge_of}
use Rattle.graph.proofs.Passed.{judged}
use Rattle.graph_nodes.specs.Nodes.{does_in, for_type, opening_in}
use Rattle.graph_nodes.proofs.Cases.{does_outside, does_grant, does_draw, does_plain, for_some, for_none}

module _ (f : List ℕ) (pass : judge_of f ≡ Pass) where
  abbrev t : Tables
  t = tables_of f

  pub step_of_fits : (n : ℕ) → EffectOf t.types (step_of (does_in f t n))
  unfolding step_of node_rights
  step_of_fits n = elim (dec_lt n t.nodes) [
    | no h ↦ here plain (does_outside f t n (omega arith)) (nothing_of t.types)
    | yes h ↦
        let fit = node_fit f t n ((judged f t pass).nodes n h) in
        elim (ℕ_discrete (node_kind f t n) grant_kind) [
          | yes g ↦ here _ (does_grant f t n h g) (grant_of_fits t.types _ (fit.grant_type g) _ _ (word_lt f _))
          | no g ↦ elim (ℕ_discrete (node_kind f t n) draw_kind) [
            | yes d ↦ here _ (does_draw f t n h d) (draw_of_fits t.types _ (fit.draw_type d))
            | no d ↦ here plain (does_plain f t n h g d) (nothing_of t.types)
          ]
        ]
  ]
    where
      here : (d : Does) → does_in f t n ≡ d → EffectOf t.types (step_of d) → EffectOf t.types (step_of (does_in f t n))
      here d e h = subst (λ (c : Does). EffectOf t.types (step_of c)) (sym e) h

  -- a number of the opening stock is at most what its rows have
  at_most : (row : ℕ → ℕ) (m : ℕ) → ((k : ℕ) → k < t.types → row k ≤ m) → (k : ℕ) → for_type t row k ≤ m
  at_most row m h k = elim (dec_lt k t.types) [
    | yes u ↦ rw (for_some t row k u) (h k u)
    | no u ↦ rw (for_none t row k (omega arith)) (omega arith)
  ]

  word : {v : ℕ} → v < 65536 → v ≤ 65535
  word h = omega arith

  pub opening_of : StockOf t.types (opening_in f t)
  unfolding opening_in opening_rights
  opening_of =
      stock_of_fits t.types (λ k. record { rights = for_type t (opening_rights f t) k; count = for_type t (opening_count f t) k })
      (λ k l. (
        omega (arith, at_most (opening_rights f t) 65535 (λ j h. word (word_lt f _)) k),
        at_most (opening_count f t) 255 (λ j h. opening_fit f t j ((judged f t pass).opening j h)) k,
      ))
      (λ k u l i. record { rights = for_none t (opening_rights f t) k u i; count = for_none t (opening_count f t) k u i })
