-- A graph that fits one-shot has no run that overdraws.
use Prim.Native.Nat.{ℕ, ◌<◌}
use mathlib.Core.Path.{◌≡◌, refl, sym, subst, ◌∙◌}
use mathlib.Core.List.{List}
use native.Mathlib.Decide.{ℕ_discrete, dec_lt}
use native.Mathlib.Omega.{arith}
use Rattle.answer.specs.declared.Answer.{Answer}
use Rattle.answer.specs.declared.Answer.TheVariants.{Pass}
use Rattle.answer.proofs.Unpack.{zero_pass}
use Rattle.effect.specs.declared.Stock.{Stock}
use Rattle.model.specs.Stocks.{Does, plain, grant, done, Covered}
use Rattle.model.specs.Program.{doings}
use Rattle.model.proofs.OneShot.{AskedBefore, not_overdrawn, grant_covers}
use Rattle.graph_tables.specs.declared.Tables.{Tables}
use Rattle.graph_tables.specs.Trailer.{tables_of}
use Rattle.graph_tables.specs.Kinds.{grant_kind, draw_kind, call_kind}
use Rattle.graph_tables.specs.Fields.{node_kind, node_number, node_count, node_rights, catch_exception}
use Rattle.graph_refuse.proofs.Fit.{node_fit}
use Rattle.graph.specs.Judge.{judge_of}
use Rattle.graph.specs.Graph.{FlowRow, OfKind}
use Rattle.graph.proofs.Passed.{judged}
use Rattle.graph.proofs.Whole.{formed, limits}
use Rattle.graph_nodes.specs.Nodes.{does_in}
use Rattle.graph_nodes.specs.Program.{program_of, Overdrawing, Safe}
use Rattle.graph_nodes.proofs.Cases.{does_outside, does_grant, does_draw, does_plain}
use Rattle.profile.specs.Profile.{Asks, BreaksOneShot, by_flow, by_entry, by_catch, Profiled, refused, unfit, fits}
use Rattle.profile.proofs.Breaks.{asked}

module _ (f : List ℕ) where
  abbrev t : Tables
  t = tables_of f

  module _ (pass : judge_of f ≡ Pass) where
    -- a grant that asks for a draw leaves what covers it
    asks_covers : (g d : ℕ) → g < t.nodes → OfKind f t draw_kind d → Asks f g d → (s : Stock) → Covered (does_in f t d) (done (does_in f t g) s)
    asks_covers g d l k a s =
        let u : node_number f t d < 6 = omega (arith, (node_fit f t d ((judged f t pass).nodes d k.0)).draw_type k.1, (limits f pass).types) in
        let e : does_in f t g ≡ grant (node_number f t d) (node_rights f t g) (node_count f t g) = rw (← a.same_type) (does_grant f t g l a.is_grant) in
        rw (does_draw f t d k.0 k.1, e) (grant_covers (node_number f t d) (node_rights f t d) (node_rights f t g) (node_count f t g) u a.rights (omega (arith, a.once)) s)

    module _ (none : (n : ℕ) → BreaksOneShot f n → ⊥) where
      asked_before : (d : ℕ) → OfKind f t draw_kind d → AskedBefore (program_of f).graph (doings (program_of f)) d
      asked_before d k = record { by_flow = λ g r. flow g r (asked f g d); no_entry = λ m l q. none d (by_entry k m l q); no_catch = λ n e r. none d (by_catch k n (catch_exception f t r.0) (r.0, r.1, r.2, refl, r.4)) }
        where
          flow : (g : ℕ) → FlowRow f t g d → Dec (Asks f g d) → (OfKind f t call_kind g → ⊥) × ((s : Stock) → Covered (does_in f t d) (done (does_in f t g) s))
          flow g r (yes a) = (λ c. omega (arith, c.1, a.is_grant), asks_covers g d ((formed f pass).flow_inside g d r).0 k a)
          flow g r (no a) = absurd (none d (by_flow k g r a))

      idle : (n : ℕ) (x : Does) → does_in f t n ≡ x → ((s : Stock) → Covered x s) → Overdrawing f n → ⊥
      idle n x e c o = o.2 (subst (λ y. Covered y o.0) (sym e) (c o.0))

      pub no_overdraw : (n : ℕ) → Overdrawing f n → ⊥
      no_overdraw n = elim (dec_lt n t.nodes) [
        | no h ↦ idle n plain (does_outside f t n (omega arith)) (λ s. tt)
        | yes l ↦ elim (ℕ_discrete (node_kind f t n) draw_kind) [
          | yes d ↦ not_overdrawn (program_of f).graph (doings (program_of f)) (formed f pass) (program_of f).opening n (asked_before n (l, d))
          | no d ↦ elim (ℕ_discrete (node_kind f t n) grant_kind) [
            | yes g ↦ idle n _ (does_grant f t n l g) (λ s. tt)
            | no g ↦ idle n plain (does_plain f t n l g d) (λ s. tt)
          ]
        ]
      ]

  -- Where one-shot is answered 0, no run overdraws.
  pub safe : {a : Answer} → Profiled f (BreaksOneShot f) a → Safe f a
  safe (refused n v) = λ e. absurd (n (zero_pass (judge_of f) (sym v.number_is ∙ e)))
  safe (unfit p n x y v) = λ e. absurd (omega (arith, v.number_is))
  safe (fits p h v) = λ e. no_overdraw p h
