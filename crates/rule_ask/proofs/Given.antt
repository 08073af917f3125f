-- What a marked call row gives is what the rules name: the rounds, whole, and those before the last.
use Prim.Native.Nat.{ℕ, suc}
use mathlib.Core.Path.{◌≡◌, refl}
use mathlib.Core.Bool.{true}
use mathlib.Core.List.{List}
use native.Mathlib.Numerals.{one-add}
use Rattle.effect.specs.declared.Effect.{Effect}
use Rattle.effect.specs.Whole.{then_of}
use Rattle.model.specs.Stocks.{permits}
use Rattle.model.specs.Rounds.{whole_rounds, earlier_rounds}
use Rattle.rule_rounds.specs.Rounds.{rounds_of, whole_of}
use Rattle.graph_tables.specs.declared.Tables.{Tables}
use Rattle.graph_tables.specs.Fields.{node_count, call_node, call_method}
use Rattle.sheet_layout.specs.declared.Shape.{Shape}
use Rattle.sheet_layout.specs.Layout.{exit_at, node_at}
use Rattle.sheet.specs.Read.{marked}
use Rattle.rule_ask.specs.Gives.{node_effect, exit_effect, called_in, thrown_in}

module _ (f : List ℕ) (t : Tables) (x : Shape) (s : List ℕ) (k : ℕ) where
  abbrev pub before : Effect
  before =
      earlier_rounds permits (node_effect x s (call_node f t k)) (marked s (exit_at x (call_method f t k) 0)) (exit_effect x s (call_method f t k) 0)
      (node_count f t (call_node f t k))

  module _ (reached : marked s (node_at x (call_node f t k)) ≡ true) where
    pub whole_is : marked s (exit_at x (call_method f t k) 0) ≡ true
        → (called_in f t x s k).rounds.whole ≡ whole_rounds permits (node_effect x s (call_node f t k)) (exit_effect x s (call_method f t k) 0) (node_count f t (call_node f t k))
    unfolding called_in rounds_of whole_of
    whole_is returns = rw (reached, returns) refl

    pub earlier_is : (called_in f t x s k).rounds.earlier ≡ before
    unfolding called_in rounds_of
    earlier_is = rw reached refl

    -- where the exception e leaves the method called, by a sheet r that may be a later one
    pub thrown_is : (r : List ℕ) (e : ℕ) → thrown_in x r (called_in f t x s k) e ≡ then_of before (exit_effect x r (call_method f t k) (suc e))
    unfolding thrown_in called_in rounds_of
    thrown_is r e = λ i. then_of (earlier_is i) (exit_effect x r (call_method f t k) (one-add e i))
