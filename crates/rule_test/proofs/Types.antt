-- A type that the file does not have breaks no rule: nothing is done to it and nothing held of it, in the blocks and in what the rules name.
--   types_kept
-- So a rule is obeyed exactly if the blocks that it leads to have their marks and it is obeyed at the file's types.
--   types_obeyed
use Prim.Native.Nat.{ℕ, zero, suc, ◌≤◌, ◌<◌}
use mathlib.Core.Path.{◌≡◌, refl}
use mathlib.Core.Logic.{◌↔◌}
use mathlib.Core.List.{List}
use native.Mathlib.Omega.{arith}
use native.Mathlib.Decide.{dec_lt}
use Rattle.answer.specs.declared.Answer.TheVariants.{Pass}
use Rattle.effect.specs.declared.Stock.{Stock}
use Rattle.effect.specs.declared.Effect.{Effect}
use Rattle.effect.specs.Six.{held_at, none_held}
use Rattle.effect.specs.Whole.{apply_of, then_of}
use Rattle.effect.specs.Coordinate.{Coordinate, type_of}
use Rattle.effect.specs.Meaning.{BelowAt, AtMostAt}
use Rattle.effect.proofs.Bit.{bit_none}
use Rattle.effect.proofs.Single.{HeldBelow, one_refl}
use Rattle.effect.proofs.Laws.{one_at_most}
use Rattle.effect.proofs.Coordinate.{type_lt, below_at}
use Rattle.effect.proofs.Types.{EffectOf, nothing_of, then_of_fits}
use Rattle.model.specs.Rules.{times, rule2, rule3, rule4, rule5, rule6, rule7, rule9, rule10}
use Rattle.model.specs.Stocks.{permits}
use Rattle.graph_tables.specs.Trailer.{tables_of}
use Rattle.graph.specs.Judge.{judge_of}
use Rattle.graph_nodes.proofs.Types.{step_of_fits}
use Rattle.sheet_formed.proofs.Types.{node_of, exit_of, stock_none}
use Rattle.rule_test.specs.Sheet.{shape, sheet, Holds, HoldsAt}
use Rattle.rule_test.proofs.Named.{OfMethod, OfNode, OfExit}

module _ (f : List ℕ) (pass : judge_of f ≡ Pass) (s : List ℕ) where
  open sheet f s use {Called, stock, Exit, exit, Node, node}

  abbrev T : ℕ
  T = (tables_of f).types

  -- What the rules name is of the file's types,
  times_of_fits : (e : Effect) → EffectOf T e → (k : ℕ) → EffectOf T (times permits k e)
  unfolding times
  times_of_fits e h zero = nothing_of T
  times_of_fits e h (suc k) = then_of_fits T (times permits k e) e (times_of_fits e h k) h

  after_of : (c m k : ℕ) → EffectOf T (then_of (node c) (times permits k (exit m 0)))
  after_of c m k = then_of_fits T (node c) (times permits k (exit m 0)) (node_of (shape f) s c) (times_of_fits (exit m 0) (exit_of (shape f) s m 0) k)

  thrown_of : (c m k e : ℕ) → EffectOf T (then_of (then_of (node c) (times permits k (exit m 0))) (exit m e))
  thrown_of c m k e = then_of_fits T (then_of (node c) (times permits k (exit m 0))) (exit m e) (after_of c m k) (exit_of (shape f) s m e)

  of_node : {q n : ℕ} {e : Effect} → OfNode f pass s q n e → EffectOf T e
  of_node (rule2 l) = nothing_of T
  of_node (rule3 {n} g y w) = then_of_fits T (node n) _ (node_of (shape f) s n) (step_of_fits f pass n)
  of_node (rule4 {n} h y w) = node_of (shape f) s n
  of_node (rule7 {c} {m} h y w z a k l u) = after_of c m k
  of_node (rule9 {c} {m} {e} h y w z a k r) = thrown_of c m k (suc e)

  of_exit : {q m x : ℕ} {e : Effect} → OfExit f pass s q m x e → EffectOf T e
  of_exit (rule5 {n} h y) = node_of (shape f) s n
  of_exit (rule6 {n} h y u) = node_of (shape f) s n
  of_exit (rule10 {c} {m} {e} h y w z u k r) = thrown_of c m k (suc e)

  -- and what leaves a type alone is at most what does so, as holding nothing is at most whatever is held.
  module _ (k : ℕ) (above : T ≤ k) (small : k < 6) where
    alone : (a b : Effect) → EffectOf T a → EffectOf T b → AtMostAt k a b
    alone a b p q u =
        below_at (apply_of a u) (apply_of b u) k (one_at_most a b k small (rw (p.rest k above small, q.rest k above small) (one_refl _)) u)

    none : (m : ℕ) (h : Stock) → BelowAt k (stock m) h
    none m h = below_at (stock m) h k (rw (stock_none (shape f) s m k above small) least)
      where
        least : HeldBelow none_held (held_at h k)
        least = record { every_right = λ b. omega (arith, bit_none b); the_count = omega arith }

    pub types_kept : (q : ℕ) → HoldsAt f s q k
    types_kept q = record {
      methods_at = λ {m} {s = h} a c. none m h;
      nodes_at = λ {n} {e} a c. alone (node n) e (node_of (shape f) s n) (of_node a);
      exits_at = λ {m} {x} {e} a c. alone (exit m x) e (exit_of (shape f) s m x) (of_exit a);
    }

  -- every block that rule q leads to has its mark
  pub record Marks (q : ℕ) : Type 0 where
    pub methods_marked : {m : ℕ} {h : Stock} → OfMethod f pass s q m h → Called m
    pub nodes_marked : {n : ℕ} {e : Effect} → OfNode f pass s q n e → Node n
    pub exits_marked : {m x : ℕ} {e : Effect} → OfExit f pass s q m x e → Exit m x

  obeyed : (q : ℕ) → Marks q → ((k : ℕ) → k < T → HoldsAt f s q k) → Holds f s q
  obeyed q marks below = record {
    methods_obey = λ h. let c = marks.methods_marked h in (c, λ i. (at_type i).methods_at h c i refl);
    nodes_obey = λ h. let c = marks.nodes_marked h in (c, λ u i. (at_type i).nodes_at h c u i refl);
    exits_obey = λ h. let c = marks.exits_marked h in (c, λ u i. (at_type i).exits_at h c u i refl);
  }
    where
      at_type : (i : Coordinate) → HoldsAt f s q (type_of i)
      at_type i = elim (dec_lt (type_of i) T) [
        | yes l ↦ below (type_of i) l
        | no l ↦ types_kept (type_of i) (omega arith) (type_lt i) q
      ]

  pub types_obeyed : (q : ℕ) → Holds f s q ↔ (Marks q × ((k : ℕ) → k < T → HoldsAt f s q k))
  types_obeyed q = (
    λ H. (
      record { methods_marked = λ h. (H.methods_obey h).0; nodes_marked = λ h. (H.nodes_obey h).0; exits_marked = λ h. (H.exits_obey h).0 },
      λ k l. record { methods_at = λ h c i e. (H.methods_obey h).1 i; nodes_at = λ h c u i e. (H.nodes_obey h).1 u i; exits_at = λ h c u i e. (H.exits_obey h).1 u i },
    ),
    λ p. obeyed q p.0 p.1,
  )
