-- The sheets of two files with the same rows, with any opening stocks: that of f, with its methods' stocks of the types of which f opens with
-- at most what g opens with, is under that of g.
use Prim.Native.Nat.{ℕ}
use mathlib.Core.Path.{◌≡◌, refl, sym, subst}
use mathlib.Core.Bool.{Bool, true}
use mathlib.Core.Logic.{inl}
use mathlib.Core.List.{List}
use Rattle.answer.specs.declared.Answer.TheVariants.{Pass}
use Rattle.effect.specs.declared.Stock.{Stock}
use Rattle.model.specs.Rules.{Sheet, Under}
use Rattle.model.specs.Stocks.{permits, step_of}
use Rattle.model.specs.Program.{steps}
use Rattle.model.proofs.Stocks.{laws}
use Rattle.model.proofs.Greatest.{Obeys}
use Rattle.model.proofs.Alike.{under_alike}
use Rattle.model.proofs.Opening.{Masks, masked, masked_obeys}
use Rattle.graph_tables.proofs.SameRows.{SameRows, rows_sym}
use Rattle.graph.specs.Judge.{judge_of}
use Rattle.graph.specs.Graph.{graph_of}
use Rattle.graph.proofs.Alike.{alike}
use Rattle.graph_nodes.specs.Program.{program_of}
use Rattle.graph_nodes.proofs.Alike.{same_does}
use Rattle.sheet_formed.specs.Sheet.{sheet_in}
use Rattle.rule_test.specs.Sheet.{sheet}
use Rattle.accept.proofs.Meaning.{Accepted}
use Rattle.accept.proofs.Alike.{same_shape, reached, covered, well_formed}
use Rattle.work.specs.Meaning.{Worked}
use Rattle.work.proofs.Settles.{greatest_worked}
use Rattle.raised.proofs.Stocks.{keeping, OpensBelow, opening_below, masks}

module _ {f g : List ℕ} (A : SameRows f g) where
  -- a sheet that obeys with f's opening stock, masked, obeys with g's
  pub obeys : (T : Sheet permits) (mask : Stock → Stock) → Masks permits (program_of f).opening (program_of g).opening mask
      → Obeys permits (graph_of f) (steps (program_of f)) (program_of f).opening T → Obeys permits (graph_of g) (steps (program_of g)) (program_of g).opening (masked mask T)
  obeys T mask kept O =
      subst (λ d. Obeys permits (graph_of g) d (program_of g).opening (masked mask T)) (λ i n. step_of (same_does f g A n i))
      (masked_obeys permits laws (graph_of f) (graph_of g) (alike (rows_sym A)) (steps (program_of f)) (program_of f).opening (program_of g).opening T O mask kept)

  module _ {r q : List ℕ} (v : Worked f r) (w : Worked g q) (keep : ℕ → Bool) where
    pub under : OpensBelow keep f g → Under permits (graph_of f) (masked (keeping keep) (sheet f r)) (sheet f q)
    under h =
        under_alike (alike A)
        (subst (λ x. Under permits (graph_of g) (masked (keeping keep) (sheet f r)) (sheet_in x q)) (sym (same_shape f g A))
        ((greatest_worked g q w).above_all (masked (keeping keep) (sheet f r)) (obeys (sheet f r) (keeping keep) (masks A h) v.obeys)))

    -- the same of q and r, in f's shape
    pub in_shape : Under permits (graph_of g) (masked (keeping keep) (sheet g q)) (sheet g r) → Under permits (graph_of f) (masked (keeping keep) (sheet f q)) (sheet f r)
    in_shape u =
        under_alike (alike A) (subst (λ x. Under permits (graph_of g) (masked (keeping keep) (sheet_in x q)) (sheet_in x r)) (sym (same_shape f g A)) u)

-- A sheet that check accepts with f's opening stock, it accepts with g's, if that is raised.
module _ {f g : List ℕ} (A : SameRows f g) (h : OpensBelow (λ k. true) f g) (pass : judge_of g ≡ Pass) (s : List ℕ) where
  pub accepted_still : Accepted f s → Accepted g s
  accepted_still c = (
    well_formed f g A s pass c.0,
    subst (λ x. Obeys permits (graph_of g) (steps (program_of g)) (program_of g).opening (sheet_in x s)) (same_shape f g A)
        (obeys A (sheet f s) (λ u. u) (λ i. inl (opening_below A h i refl, λ u. refl)) c.1),
    λ n y. let z = reached g f (rows_sym A) s y in covered f g A s z.0.0 (c.2 n z),
  )
