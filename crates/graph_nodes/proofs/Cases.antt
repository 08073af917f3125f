-- What a node does and what a run starts with, at each case that the code tells apart.
use Prim.Native.Nat.{ℕ, ◌<◌, ◌≤◌}
use mathlib.Core.Path.{◌≡◌, refl, sym, ap, ◌∙◌}
use mathlib.Core.Bool.{Bool, true, false}
use mathlib.Core.List.{List}
use lib.Dec.{eqb, leb}
use borrow.Author.Tests.{lt-ltb, le-ltb, le-leb, lt-leb, eq-eqb, ne_eqb}
use Rattle.effect.specs.declared.Effect.{Effect}
use Rattle.effect_one.specs.declared.One.{One}
use Rattle.effect_one.specs.Single.{idle}
use Rattle.effect_one.specs.Formulas.{drawn, granted}
use Rattle.effect.specs.Six.{effect_of}
use Rattle.effect.specs.Whole.{nothing_done, one_if, draw_of, grant_of}
use Rattle.model.specs.Stocks.{Does, plain, grant, draw, step_of}
use Rattle.graph_tables.specs.declared.Tables.{Tables}
use Rattle.graph_tables.specs.Kinds.{grant_kind, draw_kind}
use Rattle.graph_tables.specs.Fields.{node_kind, node_number, node_count, node_rights}
use Rattle.graph_nodes.specs.Nodes.{does_if, does_in, for_type}
use Rattle.graph_nodes.specs.Own.{own_of}

module _ (f : List ℕ) (t : Tables) (n : ℕ) where
  pub does_outside : t.nodes ≤ n → does_in f t n ≡ plain
  unfolding does_in
  does_outside h = simp (le-leb t.nodes n h)

  module _ (inside : n < t.nodes) where
    pub does_grant : node_kind f t n ≡ grant_kind → does_in f t n ≡ grant (node_number f t n) (node_rights f t n) (node_count f t n)
    unfolding does_in
    does_grant e = simp (lt-leb t.nodes n inside, eq-eqb (node_kind f t n) grant_kind e)

    pub does_draw : node_kind f t n ≡ draw_kind → does_in f t n ≡ draw (node_number f t n) (node_rights f t n)
    unfolding does_in
    does_draw e = simp (lt-leb t.nodes n inside, e)

    pub does_plain : (node_kind f t n ≡ grant_kind → ⊥) → (node_kind f t n ≡ draw_kind → ⊥) → does_in f t n ≡ plain
    unfolding does_in
    does_plain g d = simp (lt-leb t.nodes n inside, ne_eqb (node_kind f t n) grant_kind g, ne_eqb (node_kind f t n) draw_kind d)

-- the effects of those steps
module _ (r : Effect) {d : Does} where
  pub step_plain : d ≡ plain → r ≡ nothing_done → r ≡ step_of d
  unfolding step_of
  step_plain e q = q ∙ ap step_of (sym e)

  pub step_grant : {t p m t' p' m' : ℕ} → d ≡ grant t p m → r ≡ grant_of t' p' m' → t' ≡ t → p' ≡ p → m' ≡ m → r ≡ step_of d
  unfolding step_of
  step_grant e q a b c = q ∙ (λ i. grant_of (a i) (b i) (c i)) ∙ ap step_of (sym e)

  pub step_draw : {t p t' : ℕ} → d ≡ draw t p → r ≡ draw_of t' → t' ≡ t → r ≡ step_of d
  unfolding step_of
  step_draw e q a = q ∙ ap draw_of a ∙ ap step_of (sym e)

-- and of its own type
module _ (r : One) {d : Does} where
  pub own_plain : d ≡ plain → r ≡ idle → r ≡ own_of d
  unfolding own_of
  own_plain e q = q ∙ ap own_of (sym e)

  pub own_grant : {t p m p' m' : ℕ} → d ≡ grant t p m → r ≡ granted p' m' → p' ≡ p → m' ≡ m → r ≡ own_of d
  unfolding own_of
  own_grant e q b c = q ∙ (λ i. granted (b i) (c i)) ∙ ap own_of (sym e)

  pub own_draw : {t p : ℕ} → d ≡ draw t p → r ≡ drawn → r ≡ own_of d
  unfolding own_of
  own_draw e q = q ∙ ap own_of (sym e)

-- the step is that of its own type, and nothing is done to another
if_idle : (b : Bool) → idle ≡ one_if b idle
if_idle true = refl
if_idle false = refl

module _ (j p m : ℕ) where
  abbrev one_of : Bool → Bool → Bool → Does
  one_of a b c = does_if a plain (does_if b (grant j p m) (does_if c (draw j p) plain))

  of_own : (a b c : Bool) → step_of (one_of a b c) ≡ effect_of (λ k. one_if (eqb k j) (own_of (one_of a b c)))
  unfolding step_of own_of nothing_done grant_of draw_of
  of_own true b c = λ i. effect_of (λ k. if_idle (eqb k j) i)
  of_own false true c = refl
  of_own false false true = refl
  of_own false false false = λ i. effect_of (λ k. if_idle (eqb k j) i)

pub own_step_means : (f : List ℕ) (t : Tables) (n : ℕ) {r : One} → r ≡ own_of (does_in f t n)
    → step_of (does_in f t n) ≡ effect_of (λ k. one_if (eqb k (node_number f t n)) r)
unfolding does_in
own_step_means f t n q =
    of_own (node_number f t n) (node_rights f t n) (node_count f t n) (leb t.nodes n) (eqb (node_kind f t n) grant_kind) (eqb (node_kind f t n) draw_kind)
    ∙ (λ i. effect_of (λ k. one_if (eqb k (node_number f t n)) (sym q i)))

-- what the opening stock has of a type
module _ (t : Tables) (row : ℕ → ℕ) (k : ℕ) where
  pub for_some : k < t.types → for_type t row k ≡ row k
  for_some h = simp (lt-ltb k t.types h)

  pub for_none : t.types ≤ k → for_type t row k ≡ 0
  for_none h = simp (le-ltb k t.types h)
