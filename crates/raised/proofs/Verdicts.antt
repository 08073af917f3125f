-- What a verdict says: the sheet is the one that is promised, and no run overdraws, or the place is the lowest node at which one does. From
-- a raised opening stock a run overdraws only where one did before.
use Prim.Native.Nat.{ℕ, ◌<◌}
use mathlib.Core.Path.{◌≡◌, sym, subst}
use mathlib.Core.Bool.{true}
use mathlib.Core.Logic.{◌⊎◌, inl, inr, ⊎_elim}
use mathlib.Core.List.{List}
use native.Mathlib.Omega.{arith}
use lib.ListN.{length}
use Rattle.answer.specs.declared.Answer.{Answer}
use Rattle.answer.specs.declared.Answer.TheVariants.{Pass}
use Rattle.answer.specs.Number.{number_of, place_of}
use Rattle.answer.proofs.Unpack.{zero_pass}
use Rattle.model.specs.Rules.{Under}
use Rattle.model.specs.Stocks.{permits}
use Rattle.model.proofs.Stocks.{laws}
use Rattle.model.proofs.Opening.{masked}
use Rattle.graph_tables.specs.Trailer.{tables_of}
use Rattle.graph_tables.proofs.SameRows.{SameRows, rows_sym}
use Rattle.graph.specs.Judge.{judge_of}
use Rattle.graph.specs.Graph.{graph_of}
use Rattle.graph.proofs.Passed.{judge_few}
use Rattle.graph_nodes.specs.Program.{Overdrawing}
use Rattle.graph_nodes.proofs.Setting.{setting}
use Rattle.sheet_layout.specs.Layout.{sheet_bytes}
use Rattle.rule_test.specs.Sheet.{shape, sheet, stock_in}
use Rattle.accept.proofs.Alike.{reached, covered}
use Rattle.work.specs.Meaning.{Worked, WorksOut, refused, wrong_length, overdrawn, passes}
use Rattle.work.proofs.Meaning.{overdraws}
use Rattle.raised.specs.Outcome.{Verdict}
use Rattle.raised.proofs.Stocks.{keeping, at_kept}

-- a file that no test refuses, with a sheet of the right length, gets one
pub a_verdict : {f s r : List ℕ} {a : Answer} → judge_of f ≡ Pass → length s ≡ sheet_bytes (shape f) → WorksOut f s r a → Verdict f r a
a_verdict {f} {s} {r} {a} pass long c = record { lent = s; works_out = c; has_verdict = go c }
  where
    go : WorksOut f s r a → (number_of a ≡ 0) ⊎ (number_of a ≡ 13)
    go (refused n e v) = absurd (n pass)
    go (wrong_length p n e v) = absurd (n long)
    go (overdrawn l w n o h v) = inr v.number_is
    go (passes l w o v) = inl v.number_is

-- the answer names the lowest node at which a run overdraws
pub record Lowest (f : List ℕ) (a : Answer) : Type 0 where
  pub number : number_of a ≡ 13
  pub somewhere : Overdrawing f (place_of a)
  pub below : (m : ℕ) → m < place_of a → Overdrawing f m → ⊥

abbrev pub Says : List ℕ → List ℕ → Answer → Type 0
Says f r a = Worked f r × (((number_of a ≡ 0) × ((n : ℕ) → Overdrawing f n → ⊥)) ⊎ Lowest f a)

pub says : {f r : List ℕ} {a : Answer} → Verdict f r a → Says f r a
says {f} {r} {a} c = go c.works_out c.has_verdict
  where
    -- 13 is not the file's
    no_verdict : number_of a ≡ number_of (judge_of f) → number_of a ≡ 13 → number_of (judge_of f) ≡ 0
    no_verdict e d = absurd (⊎_elim (λ l. omega arith) (⊎_elim (λ l. omega arith) (λ l. omega arith)) (judge_few f (tables_of f)))

    go : {s : List ℕ} → WorksOut f s r a → (number_of a ≡ 0) ⊎ (number_of a ≡ 13) → Says f r a
    go (refused n e v) d = absurd (n (zero_pass (judge_of f) (⊎_elim (λ z. omega (arith, v.number_is)) (no_verdict v.number_is) d)))
    go (wrong_length p n e v) d = absurd (⊎_elim (λ z. omega (arith, v.number_is)) (λ z. omega (arith, v.number_is)) d)
    go (overdrawn l w n o h v) d = (w, inr (record { number = v.number_is; somewhere = subst (Overdrawing f) (sym v.place_is) o; below = λ m k. h m (omega (arith, v.place_is)) }))
    go (passes l w o v) d = (w, inl (v.number_is, o))

-- of every type what f opens with is at most what g opens with
module _ {f g : List ℕ} (A : SameRows f g) {r q : List ℕ} (v : Worked f r) (w : Worked g q)
    (high : Under permits (graph_of f) (masked (keeping (λ k. true)) (sheet f r)) (sheet f q)) where
  open (setting f v.well_formed.0).told use {enough, short}
  open laws use {apply_mono}

  pub overdrawn_before : (n : ℕ) → Overdrawing g n → Overdrawing f n
  overdrawn_before n o =
      let u = (overdraws g q w n).1 o in
      let y = reached g f (rows_sym A) q u.0 in
      let l = y.0.0 in
      let m = (graph_of f).method n in
      let a = high.nodes_under n l y.0 in
      let b = high.methods_under m y.1 in
      let i = short n (stock_in f q n) (λ c. u.1 (covered f g A q l c)) in
      let s = (sheet f r).stock m in
      (overdraws f r v n).0 (
        (a.0, b.0),
        λ c.
            omega (
              arith,
              enough n (stock_in f r n) c i.0 i.1,
              a.1 s i.0,
              apply_mono ((sheet f q).node n) i.0 s ((sheet f q).stock m) (omega (arith, b.1 i.0, at_kept (λ k. true) s i.0 (λ j. true))),
              i.2,
            ),
      )
