-- In a file that passes, a stretch of catch rows is what the graph has: the rows that apply to one exception at one node.
use mathlib.Core.Path.{◌≡◌, refl}
use mathlib.Core.Bool.{true, false}
use mathlib.Core.List.{List}
use Prim.Native.Nat.{ℕ, ◌<◌, ◌≤◌}
use native.Mathlib.Omega.{arith}
use borrow.Author.Tests.{leb-true, leb-false}
use Rattle.model.specs.Machine.{Uncaught}
use Rattle.graph_tables.specs.declared.Tables.{Tables}
use Rattle.graph_tables.specs.declared.Table.TheVariants.{Catches}
use Rattle.graph_tables.specs.Fields.{catch_from, catch_exception, catch_to}
use Rattle.graph_rows.specs.Rows.{catches_of, uncaught_of}
use Rattle.graph_rows.specs.Family.{Applies}
use Rattle.graph_rows.proofs.Stretches.{In}
use Rattle.graph_rows.proofs.Families as families
use Rattle.graph_refuse.proofs.Fit.{catch_fit}
use Rattle.graph.specs.Graph.{FamilyRow, graph_in}
use Rattle.graph.proofs.Passed.{Judged}
use Rattle.graph.proofs.Rises.{rises}

module _ (f : List ℕ) (t : Tables) (j : Judged f t) (n e : ℕ) (small : e < 8) where
  seven : (k : ℕ) → k < t.catches → catch_exception f t k ≤ 7
  seven k l = (catch_fit f t k (j.catches k l)).exception

  pub in_catches : (k : ℕ) → k < t.catches → catch_from f t k ≡ n → Applies f t n e (catch_exception f t k) → In (catches_of f t n e) k
  in_catches = families.in_catches f t (rises f t j Catches) seven n e (omega arith)

  pub of_catches : (k : ℕ) → In (catches_of f t n e) k → (k < t.catches) × (catch_from f t k ≡ n) × Applies f t n e (catch_exception f t k)
  of_catches = families.of_catches f t (rises f t j Catches) seven n e (omega arith)

  -- the stretch is empty exactly where the graph has no such row
  pub uncaught_true : uncaught_of f t n e ≡ true → Uncaught (graph_in f t) n e
  uncaught_true h b w =
      let i = in_catches w.0 w.1 w.2 w.3 in
      let l : (catches_of f t n e).to ≤ (catches_of f t n e).from = leb-true _ _ h in
      omega (arith, i.0, i.1)

  pub uncaught_false : uncaught_of f t n e ≡ false → (b : ℕ) × FamilyRow f t n e b
  uncaught_false h =
      let k = (catches_of f t n e).from in
      let r = of_catches k (omega arith, leb-false _ _ h) in
      (catch_to f t k, (k, r.0, r.1, r.2, refl, small))
