-- What a larger opening stock does, over what work out promises of both files.
use Prim.Native.Nat.{ℕ, ◌≤◌, ◌<◌}
use mathlib.Core.Path.{◌≡◌, refl, sym, ap}
use mathlib.Core.Bool.{Bool, true, false, not, true≢false}
use mathlib.Core.Logic.{⊎_elim}
use mathlib.Core.List.{List}
use native.Mathlib.Decide.{dec_lt}
use native.Mathlib.Nat.{le_of_eq, le_antisymm}
use native.Mathlib.Omega.{arith}
use lib.Dec.{eqb}
use borrow.Author.Tests.{ne_eqb, eqb-false, not-true}
use Rattle.answer.specs.declared.Answer.{Answer}
use Rattle.answer.specs.declared.Answer.TheVariants.{Pass}
use Rattle.answer.specs.Number.{number_of, place_of}
use Rattle.effect.specs.Coordinate.{bit}
use Rattle.effect.proofs.Bit.{bit_ext}
use Rattle.model.specs.Rules.{Under}
use Rattle.model.specs.Stocks.{permits}
use Rattle.model.proofs.Opening.{masked}
use Rattle.graph_tables.proofs.SameRows.{SameRows, same_tables, rows_sym}
use Rattle.graph.specs.Judge.{judge_of}
use Rattle.graph.specs.Graph.{graph_of}
use Rattle.graph_nodes.specs.Program.{Overdrawing}
use Rattle.sheet_layout.specs.declared.Shape.{Shape}
use Rattle.rule_test.specs.Sheet.{shape, sheet, WellFormed}
use Rattle.accept.specs.Check.{check_of}
use Rattle.accept.proofs.Meaning.{accepts}
use Rattle.accept.proofs.Alike.{well_formed}
use Rattle.work.specs.Meaning.{Worked}
use Rattle.raised.specs.Opening.{ButOpening, Raised, OnlyType}
use Rattle.raised.specs.Outcome.{Verdict, EffectsStay, NoWorse, OthersStay}
use Rattle.raised.proofs.Rows.{same_rows}
use Rattle.raised.proofs.Stocks.{keeping, OpensBelow}
use Rattle.raised.proofs.Sheets.{under, in_shape, accepted_still}
use Rattle.raised.proofs.Words.{Lower, effects_stay, risen, fallen, no_fall}
use Rattle.raised.proofs.Verdicts.{Says, says, overdrawn_before}

-- every type, no type, every type but j
abbrev every : ℕ → Bool
every k = true

abbrev none : ℕ → Bool
none k = false

abbrev but : ℕ → ℕ → Bool
but j k = not (eqb k j)

other : (j k : ℕ) → but j k ≡ true → k ≡ j → ⊥
other j k e = eqb-false k j (not-true _ e)

others : (j k : ℕ) → (k ≡ j → ⊥) → but j k ≡ true
others j k n = ap not (ne_eqb k j n)

-- the two verdicts, where a run overdraws from the second only where one did from the first
module _ (f g : List ℕ) (a b : Answer) (before : (n : ℕ) → Overdrawing g n → Overdrawing f n) where
  still_passes : {r q : List ℕ} → Says f r a → Says g q b → number_of a ≡ 0 → number_of b ≡ 0
  still_passes v w e = ⊎_elim (λ p. p.0) (λ o. absurd (⊎_elim (λ p. p.1 (place_of b) (before (place_of b) o.somewhere)) (λ l. omega (arith, l.number)) v.1)) w.1

  no_later : {r q : List ℕ} → Says f r a → Says g q b → number_of b ≡ 13 → (number_of a ≡ 13) × (place_of a ≤ place_of b)
  no_later v w e =
      ⊎_elim (λ p. absurd (omega (arith, p.0)))
      (λ o.
      let here = before (place_of b) o.somewhere in
      ⊎_elim (λ p. absurd (p.1 (place_of b) here))
      (λ l. (
        l.number,
        elim (dec_lt (place_of b) (place_of a)) [
          | yes k ↦ absurd (l.below (place_of b) k here)
          | no k ↦ omega arith
        ],
      )) v.1) w.1

-- the sheets of two files with the same rows: of the types in `keep` f opens with at most what g opens with, of those in `keep'` with at least
module _ {f g : List ℕ} (A : SameRows f g) {r q : List ℕ} (v : Worked f r) (w : Worked g q) (keep keep' : ℕ → Bool) (h : OpensBelow keep f g) (h' : OpensBelow keep' g f) where
  abbrev x : Shape
  x = shape f

  high : Under permits (graph_of f) (masked (keeping keep) (sheet f r)) (sheet f q)
  high = under A v w keep h

  low : Under permits (graph_of f) (masked (keeping keep') (sheet f q)) (sheet f r)
  low = in_shape A v w keep' (under (rows_sym A) w v keep' h')

  well : WellFormed f q
  well = well_formed g f (rows_sym A) q v.well_formed.0 w.well_formed

  stay : EffectsStay x r q
  stay = effects_stay f r q v.well_formed well keep keep' high low

  up : (m k : ℕ) → m < x.methods → k < x.types → keep k ≡ true → Lower x r q m k
  up = risen f r q v.well_formed well keep keep' high low

  down : (m k : ℕ) → m < x.methods → k < x.types → keep' k ≡ true → Lower x q r m k
  down = fallen f r q v.well_formed well keep keep' high low

-- Whatever becomes of the opening stock, raised or lowered, no mark changes, and no word of an exit or a node.
pub marks_stay : {f g r q : List ℕ} {a b : Answer} → ButOpening f g → Verdict f r a → Verdict g q b → EffectsStay (shape f) r q
marks_stay B c d =
    let v = (says c).0 in
    stay (same_rows v.well_formed.0 B) v (says d).0 none none (λ k l e. absurd (true≢false (sym e))) (λ k l e. absurd (true≢false (sym e)))

-- "With the opening stock raised, in rights or counts, no figure in the sheet falls, no mark changes, and pass never becomes overdrawn."
pub raised : {f g r q : List ℕ} {a b : Answer} → Raised f g → Verdict f r a → Verdict g q b → NoWorse (shape f) r q a b
raised {f} {g} {r} {q} {a} {b} R c d =
    let v = says c in
    let w = says d in
    let A = same_rows v.0.well_formed.0 R.but_opening in
    let more : OpensBelow every f g = λ k l e. (R.rights k l, R.count k l) in
    let kept = up A v.0 w.0 every none more (λ k l e. absurd (true≢false (sym e))) in
    let same = marks_stay R.but_opening c d in
    let before = overdrawn_before A v.0 w.0 (under A v.0 w.0 every more) in
    record {
      effects_stay = same;
      rights_kept = λ m k l h. (kept m k l h refl).rights;
      counts_kept = λ m k l h. (kept m k l h refl).count;
      no_fall = no_fall f r q same (λ m k l h. kept m k l h refl);
      passes = still_passes f g a b before v w;
      overdrawn = no_later f g a b before v w;
    }

-- "And a change to one type's opening stock changes no word of the sheet that belongs to another type."
pub only_type : {f g r q : List ℕ} {a b : Answer} (j : ℕ) → OnlyType j f g → Verdict f r a → Verdict g q b → OthersStay j (shape f) r q
only_type {f} {g} {r} {q} j O c d =
    let v = (says c).0 in
    let w = (says d).0 in
    let A = same_rows v.well_formed.0 O.but_opening in
    let there : OpensBelow (but j) f g = λ k l e. (λ b. le_of_eq (ap (bit b) (O.rights k l (other j k e))), le_of_eq (O.count k l (other j k e))) in
    let back : OpensBelow (but j) g f = λ k l e. (
      λ b. le_of_eq (sym (ap (bit b) (O.rights k (rw (same_tables A) l) (other j k e)))),
      le_of_eq (sym (O.count k (rw (same_tables A) l) (other j k e))),
    ) in
    let rise = up A v w (but j) (but j) there back in
    let fall = down A v w (but j) (but j) there back in
    record {
      effects_stay = marks_stay O.but_opening c d;
      rights_stay = λ m k l h n. let p = others j k n in bit_ext _ _ (λ b. le_antisymm ((rise m k l h p).rights b) ((fall m k l h p).rights b));
      counts_stay = λ m k l h n. let p = others j k n in le_antisymm (rise m k l h p).count (fall m k l h p).count;
    }

-- And any sheet that check accepts with the smaller stock, it accepts with the larger one: what went out with a release is good still.
pub still_accepted : {f g : List ℕ} → Raised f g → judge_of g ≡ Pass → (s : List ℕ) → check_of f s ≡ Pass → check_of g s ≡ Pass
still_accepted {f} {g} R pass s c =
    let w = (accepts f s).0 c in
    (accepts g s).1 (accepted_still (same_rows w.0.0 R.but_opening) (λ k l e. (R.rights k l, R.count k l)) pass s w)
