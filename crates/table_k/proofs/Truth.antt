-- The test of a row, and that a row that passes it is true.
use Prim.Native.Nat.{ℕ, ◌<◌}
use mathlib.Core.Path.{◌≡◌, sym, ap, subst}
use mathlib.Core.Bool.{Bool, true, false, ◌&&◌, not}
use mathlib.Core.Logic.{⊎_elim}
use mathlib.Core.List.{List, [], ◌∷◌}
use native.Mathlib.Omega.{arith}
use lib.Dec.{ltb, eqb}
use lib.ListN.{get_or}
use borrow.Author.Tests.{eqb-true, ltb-true, not-true}
use Rattle.answer.specs.declared.Answer.{Answer}
use Rattle.answer.specs.declared.Answer.TheVariants.{Pass}
use Rattle.answer.specs.Number.{number_of, place_of, Says}
use Rattle.answer.proofs.Settled.{says}
use Rattle.answer.proofs.Unpack.{zero_pass}
use Rattle.effect.specs.declared.Effect.{Effect}
use Rattle.effect.specs.declared.Stock.{Stock}
use Rattle.effect.specs.Six.{all_six}
use Rattle.effect.specs.Whole.{at_most_of}
use Rattle.effect.proofs.Bools.{and_l, and_r, clash}
use Rattle.effect.proofs.Six.{all_e}
use Rattle.effect.proofs.Laws.{Words}
use Rattle.effect.proofs.Coordinate.{at_most_at_sound, at_most_at_complete}
use Rattle.model.proofs.Sound.{sound}
use Rattle.model.proofs.Exact.{never_overdraws_at}
use Rattle.graph_tables.specs.Trailer.{tables_of}
use Rattle.graph_tables.specs.Fields.{entry_of, node_number, node_line}
use Rattle.graph.specs.Judgement.{shape_of}
use Rattle.graph_places.specs.Places.{overdrawn_at}
use Rattle.graph.proofs.Passed.{judge_few}
use Rattle.graph_nodes.specs.Nodes.{opening_in}
use Rattle.graph_nodes.specs.Program.{Brings, Overdrawing}
use Rattle.graph_nodes.proofs.Setting.{setting}
use Rattle.sheet_layout.specs.Layout.{node_at}
use Rattle.sheet.specs.Read.{marked}
use Rattle.sheet.proofs.Marked.{true_mark}
use Rattle.rule_test.specs.Sheet.{sheet, WellFormed, Holds, IsReached}
use Rattle.accept.specs.Check.{check_of}
use Rattle.accept.specs.Meaning.{IsCovered, Checks, refused, wrong_length, ill_formed, broken, overdrawn, accepted}
use Rattle.accept.proofs.Meaning.{checks, accepts, safe}
use Rattle.work.specs.Meaning as work
use Rattle.work.proofs.Agree.{wrote}
use Rattle.work.proofs.Only.{only}
use Rattle.table_k.specs.File.{file_bytes}
use Rattle.table_k.specs.Table.{Claim}
use Rattle.table_k.specs.Table as table
use Rattle.table_k.specs.Known.{Answers, Known, AllKnown}
use Rattle.table_k.proofs.Follows.{Choice, follows, overdrawn_by}

-- What a row on a file is shown by: a sheet on which check gives the row's verdict, and for an overdraft the choices of a run.
abbrev pub Certificate : Type 0
Certificate = List ℕ × List Choice

-- of type 0 the effect has these
unfoldable pub has_these : Effect → ℕ → ℕ → ℕ → ℕ → Bool
has_these e i m c d = eqb (get_or e.keepin 0 0) i && (eqb (get_or e.keepmax 0 0) m && (eqb (get_or e.cap 0 0) c && eqb (get_or e.drop 0 0) d))

-- its rights are words
unfoldable pub words_of : Effect → Bool
words_of e = all_six (λ k. ltb (get_or e.keepmax k 0) 65536)

-- The test of a row.
unfoldable pub test : Claim → Certificate → Bool
test (table.passes g) c = eqb (number_of (check_of (file_bytes g) c.0)) 0
test (table.overdrawn g n k l) c =
    eqb (number_of (check_of (file_bytes g) c.0)) 13
    && eqb (place_of (check_of (file_bytes g) c.0)) n
    && eqb (node_number (file_bytes g) (tables_of (file_bytes g)) n) k
    && eqb (node_line (file_bytes g) (tables_of (file_bytes g)) n) l
    && follows (file_bytes g) n c.1 (entry_of (file_bytes g) 0) [] (opening_in (file_bytes g) (tables_of (file_bytes g)))
test (table.unreached g n) c =
    eqb (number_of (check_of (file_bytes g) c.0)) 0 && not (marked c.0 (node_at (shape_of (tables_of (file_bytes g))) n))
test (table.has e i m p d) c = has_these e i m p d
test (table.at_most a b) c = at_most_of a b
test (table.not_at_most a b) c = words_of a && not (at_most_of a b)

module _ (f u : List ℕ) where
  -- Check's verdict 13 on a sheet: the sheet obeys, and below the node named it covers every draw that it calls reached.
  abbrev CoversBelow : ℕ → Type 0
  CoversBelow n = WellFormed f u × ((r : ℕ) → Holds f u r) × ((m : ℕ) → m < n → IsReached f u m → IsCovered f u m)

  was_overdrawn : {a : Answer} → Checks f u a → number_of a ≡ 13 → CoversBelow (place_of a)
  was_overdrawn (refused n v) e = absurd (⊎_elim (λ w. omega (arith, v.number_is)) (⊎_elim (λ w. omega (arith, v.number_is)) (λ w. omega (arith, v.number_is))) (judge_few f (tables_of f)))
  was_overdrawn (wrong_length p n v) e = absurd (omega (arith, v.number_is))
  was_overdrawn (ill_formed p q b l h k v) e = absurd (omega (arith, v.number_is))
  was_overdrawn (broken w r k h n low v) e = absurd (omega (arith, v.number_is))
  was_overdrawn (overdrawn w h n y k b v) e = (w, h, λ m l. b m (omega (arith, v.place_is)))
  was_overdrawn (accepted w h k v) e = absurd (omega (arith, v.number_is))

  -- With the sheet that work out wrote, its one answer is the one that the runs give: no run overdraws,
  if_passes : check_of f u ≡ Pass → Answers f 0 0 0 0
  if_passes e s r a l w =
      let q = (only f s r r w (work.passes l (wrote f s r w ((accepts f u).0 e).0.0 l).0 (safe f u (ap number_of e)) (says Pass))).0 in
      subst (λ b. Says b 0 0 0 0) (sym q) (says Pass)

  -- or one overdraws at n, and none at a lower node.
  if_overdrawn : (n : ℕ) → number_of (check_of f u) ≡ 13 → place_of (check_of f u) ≡ n → Overdrawing f n → Answers f 13 (node_number f (tables_of f) n) n (node_line f (tables_of f) n)
  if_overdrawn n e p o s r a l w =
      let q = (only f s r r w (work.overdrawn l (wrote f s r w c.0.0 l).0 n o below (says (overdrawn_at f (tables_of f) n)))).0 in
      subst (λ b. Says b 13 (node_number f (tables_of f) n) n (node_line f (tables_of f) n)) (sym q) (says (overdrawn_at f (tables_of f) n))
    where
      c : CoversBelow n
      c = subst CoversBelow p (was_overdrawn (checks f u) e)

      below : (m : ℕ) → m < n → Overdrawing f m → ⊥
      below m h = never_overdraws_at (setting f c.0.0) (sheet f u) c.1 m (c.2 m h)

  -- And no run arrives at a node that the sheet does not mark.
  if_unmarked : check_of f u ≡ Pass → (n : ℕ) → marked u (node_at (shape_of (tables_of f)) n) ≡ false → (h : Stock) → Brings f n h → ⊥
  if_unmarked e n m h b =
      let a = (accepts f u).0 e in
      clash _ (true_mark u _ (sound (setting f a.0.0) (sheet f u) a.1 b.1).0.0.1) m

has_these_lem : (e : Effect) (i m c d : ℕ) → has_these e i m c d ≡ true → (get_or e.keepin 0 0 ≡ i) × (get_or e.keepmax 0 0 ≡ m) × (get_or e.cap 0 0 ≡ c) × (get_or e.drop 0 0 ≡ d)
unfolding has_these
has_these_lem e i m c d h =
    let p = eqb (get_or e.keepin 0 0) i in
    let q = eqb (get_or e.keepmax 0 0) m in
    let r = eqb (get_or e.cap 0 0) c in
    let h1 = and_r p _ h in
    let h2 = and_r q _ h1 in
    (eqb-true _ i (and_l p _ h), eqb-true _ m (and_l q _ h1), eqb-true _ c (and_l r _ h2), eqb-true _ d (and_r r _ h2))

words_known : (e : Effect) → words_of e ≡ true → Words e
unfolding words_of
words_known e h k l = ltb-true _ 65536 (all_e (λ k. ltb (get_or e.keepmax k 0) 65536) h k l)

-- A row that passes its test is true.
pub truth : (r : Claim) (c : Certificate) → test r c ≡ true → Known r
unfolding test
truth (table.passes g) c h = if_passes (file_bytes g) c.0 (zero_pass _ (eqb-true _ 0 h))
truth (table.overdrawn g n k l) c h =
    let a = check_of (file_bytes g) c.0 in
    let p = eqb (number_of a) 13 in
    let q = eqb (place_of a) n in
    let m = eqb (node_number (file_bytes g) (tables_of (file_bytes g)) n) k in
    let w = eqb (node_line (file_bytes g) (tables_of (file_bytes g)) n) l in
    let u = and_l (p && q && m && w) _ h in
    let t = and_l (p && q && m) _ u in
    let e = and_l (p && q) _ t in
    let type : node_number (file_bytes g) (tables_of (file_bytes g)) n ≡ k = eqb-true _ k (and_r (p && q) _ t) in
    let line : node_line (file_bytes g) (tables_of (file_bytes g)) n ≡ l = eqb-true _ l (and_r (p && q && m) _ u) in
    subst (λ X. X) (λ i. Answers (file_bytes g) 13 (type i) n (line i))
    (if_overdrawn (file_bytes g) c.0 n (eqb-true _ 13 (and_l p _ e)) (eqb-true _ n (and_r p _ e))
    (overdrawn_by (file_bytes g) n c.1 (and_r (p && q && m && w) _ h)))
truth (table.unreached g n) c h =
    let p = eqb (number_of (check_of (file_bytes g) c.0)) 0 in
    if_unmarked (file_bytes g) c.0 (zero_pass _ (eqb-true _ 0 (and_l p _ h))) n (not-true _ (and_r p _ h))
truth (table.has e i m p d) c h = has_these_lem e i m p d h
truth (table.at_most a b) c h = at_most_at_sound a b h
truth (table.not_at_most a b) c h = λ q. clash (at_most_of a b) (at_most_at_complete a b (words_known a (and_l (words_of a) _ h)) q) (not-true _ (and_r (words_of a) _ h))

-- every row of a table, shown by the certificate of its number
unfoldable pub tests : (ℕ → Certificate) → List (ℕ × Claim) → Bool
tests c [] = true
tests c (r ∷ t) = test r.1 (c r.0) && tests c t

pub all_true : (c : ℕ → Certificate) (t : List (ℕ × Claim)) → tests c t ≡ true → AllKnown t
unfolding tests
all_true c [] h = tt
all_true c (r ∷ t) h = let e = test r.1 (c r.0) in (truth r.1 (c r.0) (and_l e _ h), all_true c t (and_r e _ h))
