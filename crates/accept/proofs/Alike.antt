-- Two files with the same rows: a sheet obeys the same rules for both, and check gives both the same number, the same type and the same
-- place. Such are files that differ only in lines.
use Prim.Native.Nat.{ℕ, ◌<◌}
use mathlib.Core.Path.{◌≡◌, refl, subst, ap, ◌∙◌, sym}
use mathlib.Core.Bool.{true, false}
use mathlib.Core.List.{List}
use lib.ListN.{length}
use Rattle.answer.specs.declared.Answer.{Answer}
use Rattle.answer.specs.declared.Answer.TheVariants.{Pass, BadSheet, BadBlock, Broken}
use Rattle.answer.specs.Number.{Says}
use Rattle.answer.proofs.Settled.{says}
use Rattle.effect.specs.Coordinate.{type_of}
use Rattle.effect.specs.Meaning.{LowestFailing}
use Rattle.model.specs.Rules.{Rule, RuleAt}
use Rattle.model.specs.Stocks.{permits, Covered, step_of}
use Rattle.model.specs.Program.{steps}
use Rattle.model.proofs.Alike.{rule_alike, rule_at_alike}
use Rattle.graph_tables.specs.Trailer.{tables_of}
use Rattle.graph_tables.specs.Fields.{node_number}
use Rattle.graph_places.specs.Places.{overdrawn_at}
use Rattle.graph.specs.Judge.{judge_of}
use Rattle.graph.specs.Judgement.{shape_of}
use Rattle.graph.specs.Graph.{graph_of}
use Rattle.graph_tables.proofs.SameRows.{SameRows, SameOpening, same_tables, same_fields, rows_sym, opening_sym}
use Rattle.graph.specs.Lines.{SameButLines}
use Rattle.graph.proofs.Lines as lines
use Rattle.graph.proofs.Alike.{alike}
use Rattle.graph.proofs.Agree.{Agree, agree, said, judged_alike, pass_alike}
use Rattle.graph_nodes.specs.Program.{program_of}
use Rattle.graph_nodes.proofs.Alike.{same_does, same_opening}
use Rattle.sheet_layout.specs.Layout.{block_count, block_at, sheet_bytes}
use Rattle.sheet_formed.specs.Ill.{ill_block}
use Rattle.sheet_formed.specs.Sheet.{sheet_in}
use Rattle.rule_test.specs.Sheet.{shape, sheet, WellFormed, Holds, HoldsAt, IsReached}
use Rattle.accept.specs.Meaning.{IsCovered, Checks, refused, wrong_length, ill_formed, broken, overdrawn, accepted}
use Rattle.accept.proofs.Meaning.{only}

module _ (f g : List ℕ) (A : SameRows f g) where
  pub same_shape : shape f ≡ shape g
  same_shape = ap shape_of (same_tables A)

  -- what a draw draws
  same_type : (n : ℕ) → n < (tables_of f).nodes → node_number g (tables_of g) n ≡ node_number f (tables_of f) n
  same_type n l = sym ((same_fields f g A).number n l ∙ ap (λ u. node_number g u n) (same_tables A))

  module _ (s : List ℕ) where
    same_sheet : sheet f s ≡ sheet g s
    same_sheet = ap (λ x. sheet_in x s) same_shape

    same_method : (n : ℕ) → n < (tables_of f).nodes → (graph_of f).method n ≡ (graph_of g).method n
    same_method = (alike A).same_method

    pub reached : {n : ℕ} → IsReached f s n → IsReached g s n
    reached {n} y = subst (λ X. X) (λ i. (same_sheet i).Node n × (same_sheet i).Called (same_method n y.0.0 i)) y

    pub covered : {n : ℕ} → n < (tables_of f).nodes → IsCovered f s n → IsCovered g s n
    covered {n} l = subst (λ X. X) (λ i. Covered (same_does f g A n i) (permits.apply ((same_sheet i).node n) ((same_sheet i).stock (same_method n l i))))

    -- for any opening stock with which g passes
    pub well_formed : judge_of g ≡ Pass → WellFormed f s → WellFormed g s
    well_formed p w = (p, subst (λ x. length s ≡ sheet_bytes x) same_shape w.1, subst (λ x. (b : ℕ) → b < block_count x → ill_block s x b ≡ false) same_shape w.2)

    module _ (B : SameOpening f g) where
      pub well : WellFormed f s → WellFormed g s
      well w = well_formed (pass_alike f g A B w.0) w

      pub holds : {r : ℕ} → Holds f s r → Holds g s r
      holds {r} h =
          rule_alike (graph_of g) (graph_of f) (alike (rows_sym A)) permits (steps (program_of g)) (program_of g).opening (sheet g s)
          (subst (λ X. X) (λ i. Rule permits (graph_of f) (λ n. step_of (same_does f g A n i)) (same_opening f g A B i) (same_sheet i) r) h)

      holds_at : {r k : ℕ} → HoldsAt f s r k → HoldsAt g s r k
      holds_at {r} {k} h =
          rule_at_alike (graph_of g) (graph_of f) (alike (rows_sym A)) permits (steps (program_of g)) (program_of g).opening (sheet g s) (λ c. type_of c ≡ k)
          (subst (λ X. X) (λ i. RuleAt permits (graph_of f) (λ n. step_of (same_does f g A n i)) (same_opening f g A B i) (same_sheet i) (λ c. type_of c ≡ k) r) h)

module _ (f g : List ℕ) (A : SameRows f g) (B : SameOpening f g) (s : List ℕ) where
  abbrev A' : SameRows g f
  A' = rows_sym A

  abbrev B' : SameOpening g f
  B' = opening_sym A B

  lowest : {r k : ℕ} → LowestFailing (HoldsAt f s r) k → LowestFailing (HoldsAt g s r) k
  lowest w = record {
    within = w.within;
    below = λ j l. holds_at f g A s B (w.below j l);
    fails = λ l y. w.fails l (holds_at g f A' s B' y);
  }

  -- what check answers for f it answers for g, as far as number, type and place go
  checked : {a : Answer} → Checks f s a → (b : Answer) × Checks g s b × Agree a b
  checked (refused n v) = (judge_of g, refused (λ p. n (pass_alike g f A' B' p)) (says (judge_of g)), agree v (said (judged_alike f g A B)))
  checked (wrong_length p n v) = (BadSheet, wrong_length (pass_alike f g A B p) (λ l. n (subst (λ x. length s ≡ sheet_bytes x) (same_shape g f A') l)) (says BadSheet), agree v (says BadSheet))
  checked (ill_formed p l b h i k v) =
      let e = same_shape f g A in (
        BadBlock (block_at (shape f) b),
        ill_formed (pass_alike f g A B p) (subst (λ x. length s ≡ sheet_bytes x) e l) b (subst (λ x. b < block_count x) e h) (subst (λ x. ill_block s x b ≡ true) e i)
            (λ c q. subst (λ x. ill_block s x c ≡ false) e (k c q)) (subst (λ x. Says (BadBlock (block_at (shape f) b)) 11 0 (block_at x b) 0) e (says _)),
        agree v (says _),
      )
  checked (broken w r k h n low v) =
      let o = Broken r k in
      (o, broken (well f g A s B w) r k (λ q l. holds f g A s B (h q l)) (λ y. n (holds g f A' s B' y)) (lowest low) (says o), agree v (says o))
  checked (overdrawn w h n y u k v) =
      let o = overdrawn_at g (tables_of g) n in
      let z = reached f g A s y in (
        o,
        overdrawn (well f g A s B w) (λ r. holds f g A s B (h r)) n z (λ c. u (covered g f A' s z.0.0 c))
            (λ m l q. let p = reached g f A' s q in covered f g A s p.0.0 (k m l p)) (says o),
        agree v (record { number_is = refl; type_is = same_type f g A n y.0.0; place_is = refl; line_is = refl }),
      )
  checked (accepted w h k v) =
      (Pass, accepted (well f g A s B w) (λ r. holds f g A s B (h r)) (λ n q. let p = reached g f A' s q in covered f g A s p.0.0 (k n p)) (says Pass), agree v (says Pass))

  pub checks_alike : {a b : Answer} → Checks f s a → Checks g s b → Agree a b
  checks_alike {a} v w = let c = checked v in subst (Agree a) (only g s c.1 ∙ sym (only g s w)) c.2

-- "Two graphs that differ only in lines get equal verdict numbers", and types and places, whatever the sheet.
pub checks_but_lines : {f g s : List ℕ} {a b : Answer} → SameButLines f g → Checks f s a → Checks g s b → Agree a b
checks_but_lines {f} {g} {s} L = checks_alike f g (lines.same_rows L) (lines.same_opening L) s
