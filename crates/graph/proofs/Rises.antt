-- Tables of which no row is refused are sorted, and so are those of a file that passes.
use mathlib.Core.Path.{◌≡◌, refl}
use mathlib.Core.Bool.{Bool, true, false}
use mathlib.Core.Logic.{⊎_elim}
use mathlib.Core.List.{List}
use Prim.Native.Nat.{ℕ, zero, suc, ◌-◌, ◌<◌, ◌≤◌}
use native.Mathlib.Omega.{arith}
use lib.Dec.{leb}
use borrow.Author.Tests.{leb-true, leb-false}
use Rattle.graph_tables.specs.declared.Tables.{Tables}
use Rattle.graph_tables.specs.declared.Table.TheVariants.{Trailer, Methods, Nodes, Flow, Calls, Parents, Catches, Opening}
use Rattle.graph_tables.specs.Fields.{flow_from, call_node}
use Rattle.graph_rows.specs.Rows.{key_of, Sorted}
use Rattle.graph_refuse.proofs.Fit.{flow_rises, call_rises, catch_fit, catch_rises}
use Rattle.words.proofs.Lowest.{NoneBelow}
use Rattle.graph_refuse.specs.Bad.{flow_bad, call_bad, catch_bad}
use Rattle.graph.proofs.Passed.{Judged}

-- from one row to the next is enough
steps_rise : (key : ℕ → ℕ) (n : ℕ) → ((k : ℕ) → k < n → (k ≡ 0 → ⊥) → key (k - 1) ≤ key k) → (i k : ℕ) → i ≤ k → k < n → key i ≤ key k
steps_rise key n h i zero l u =
    let e : i ≡ 0 = omega arith in
    rw e (omega arith)
steps_rise key n h i (suc k) l u = go (leb i k) refl (λ v. steps_rise key n h i k v (omega arith))
  where
    go : (b : Bool) → leb i k ≡ b → (i ≤ k → key i ≤ key k) → key i ≤ key (suc k)
    go true q before =
        let v : key i ≤ key k = before (leb-true i k q) in
        let e : suc k - 1 ≡ k = omega arith in
        let w : key k ≤ key (suc k) = rw e at (h (suc k) u (λ z. omega arith)) in
        omega arith
    go false q before =
        let v : k < i = leb-false i k q in
        let e : i ≡ suc k = omega arith in
        rw e (omega arith)

module _ (f : List ℕ) (t : Tables) (flows : NoneBelow (flow_bad f t) t.flows) (calls : NoneBelow (call_bad f t) t.calls) (catches : NoneBelow (catch_bad f t) t.catches) where
  catch_step : (k : ℕ) → k < t.catches → (k ≡ 0 → ⊥) → key_of f t Catches (k - 1) ≤ key_of f t Catches k
  catch_step k l z =
      let e = (catch_fit f t (k - 1) (catches (k - 1) (omega arith))).exception in
      ⊎_elim (λ w. omega arith) (λ w. omega arith) (catch_rises f t k (catches k l) z)

  pub sorted : Sorted f t
  sorted Trailer = λ i k l u. l
  sorted Methods = λ i k l u. l
  sorted Nodes = λ i k l u. l
  sorted Flow = steps_rise (flow_from f t) t.flows (λ k l. flow_rises f t k (flows k l))
  sorted Calls = steps_rise (call_node f t) t.calls (λ k l. call_rises f t k (calls k l))
  sorted Parents = λ i k l u. l
  sorted Catches = steps_rise (key_of f t Catches) t.catches catch_step
  sorted Opening = λ i k l u. l

pub rises : (f : List ℕ) (t : Tables) → Judged f t → Sorted f t
rises f t j = sorted f t j.flows j.calls j.catches
