-- The sheet that bytes say is of its shape's types: nothing is done to a further type, and nothing held of it.
use Prim.Native.Nat.{ℕ, ◌≤◌, ◌<◌}
use mathlib.Core.Path.{◌≡◌}
use mathlib.Core.List.{List}
use Rattle.sheet_layout.specs.declared.Shape.{Shape}
use Rattle.sheet_layout.specs.Layout.{method_at, exit_at, node_at}
use Rattle.effect.specs.declared.Effect.{Effect}
use Rattle.effect.specs.Six.{held_at, none_held}
use Rattle.effect.proofs.Types.{EffectOf}
use Rattle.effect.proofs.Fields.{fields_idle}
use Rattle.sheet.proofs.Back.{EffectFits, stock_read, effect_read}
use Rattle.sheet_formed.specs.Sheet.{sheet_in}

-- an effect of t types that words can hold
pub fits_of : (t : ℕ) (e : Effect) → EffectFits t e → EffectOf t e
fits_of t e f =
    record {
      six = f.six;
      words = f.keepmax.words;
      rest = λ k u l. fields_idle e k (record { keepin = f.keepin.rest k u l; keepmax = f.keepmax.rest k u l; cap = f.cap.rest k u l; drop = f.drop.rest k u l });
    }

module _ (x : Shape) (s : List ℕ) where
  pub node_of : (n : ℕ) → EffectOf x.types ((sheet_in x s).node n)
  node_of n = fits_of x.types _ (effect_read s x.types (node_at x n))

  pub exit_of : (m e : ℕ) → EffectOf x.types ((sheet_in x s).exit m e)
  exit_of m e = fits_of x.types _ (effect_read s x.types (exit_at x m e))

  pub stock_none : (m k : ℕ) → x.types ≤ k → k < 6 → held_at ((sheet_in x s).stock m) k ≡ none_held
  stock_none m k u l = let r = stock_read s x.types (method_at x m) in λ i. record { rights = r.rights.rest k u l i; count = r.counts.rest k u l i }
