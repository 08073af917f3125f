-- One of the eight kinds that has no parent is caught by its own rows alone, and has no ancestor that a throw's row could name: both as
-- document 01 has it.
use mathlib.Core.Path.{◌≡◌, refl, sym, subst}
use mathlib.Core.Logic.{◌↔◌}
use mathlib.Core.Bool.{Bool, true, false}
use mathlib.Core.List.{List}
use Prim.Native.Nat.{ℕ, ◌<◌}
use native.Mathlib.Omega.{arith}
use lib.Dec.{eqb}
use borrow.Author.Tests.{eqb-true, eqb-false}
use Rattle.graph_tables.specs.declared.Tables.{Tables}
use Rattle.graph_tables.specs.Fields.{parent_of}
use Rattle.graph_tables.specs.Family.{own, above}
use Rattle.graph_refuse.specs.Bad.{kin}
use Rattle.graph_refuse.proofs.Fit.{Kin, kin_says, says_kin}
use Rattle.graph_rows.specs.Family.{Applies}
use Rattle.graph.specs.Graph.{CatchRow, graph_in}

module _ (f : List ℕ) (t : Tables) (n e : ℕ) (small : e < 8) (none : parent_of f t e ≡ 255) where
  only_own : {c : ℕ} → Applies f t n e c → c ≡ e
  only_own (own h) = refl
  only_own (above h l r) = absurd (omega arith)

  pub alone : (b : ℕ) → (graph_in f t).Catch n e b ↔ CatchRow f t n e b
  alone b = (
    λ w. (w.0, w.1, w.2, only_own w.3, w.4),
    λ w. (w.0, w.1, w.2, subst (Applies f t n e) (sym w.3) (own (w.0, w.1, w.2, w.3)), w.4, small),
  )

  -- on a throw a row names its kind and no other
  pub kin_alone : (c : ℕ) → kin f t e c ≡ eqb e c
  kin_alone c = go (eqb e c) refl
    where
      go : (b : Bool) → eqb e c ≡ b → kin f t e c ≡ b
      go true q = says_kin f t e c (subst (Kin f t e) (eqb-true e c q) (own refl))
      go false q = other (kin f t e c) refl
        where
          own_kind : {d : ℕ} → Kin f t e d → e ≡ d
          own_kind (own h) = refl
          own_kind (above h l r) = absurd (omega arith)

          other : (b : Bool) → kin f t e c ≡ b → kin f t e c ≡ false
          other true r = absurd (eqb-false e c q (own_kind (kin_says f t e c r)))
          other false r = r
