-- For each file and each lent sheet there is no second answer and no second content.
use Prim.Native.Nat.{ℕ, ◌*◌, ◌%◌, ◌≤◌, ◌<◌}
use mathlib.Core.Path.{◌≡◌, sym, ap, ◌∙◌}
use mathlib.Core.List.{List}
use native.Mathlib.Decide.{dec_lt, ℕ_discrete}
use native.Mathlib.Omega.{arith}
use lib.ListN.{length, get_or}
use borrow.Author.Tests.{lt-ltb, le-ltb, eq-eqb, ne_eqb}
use Rattle.answer.specs.declared.Answer.{Answer}
use Rattle.answer.specs.declared.Answer.TheVariants.{Pass, BadSheet}
use Rattle.answer.proofs.Settled.{says_only}
use Rattle.model.specs.Rules.{Under}
use Rattle.model.specs.Stocks.{permits}
use Rattle.graph_tables.specs.Trailer.{tables_of}
use Rattle.graph.specs.Judge.{judge_of}
use Rattle.graph.specs.Judgement.{shape_of}
use Rattle.graph.specs.Graph.{graph_of}
use Rattle.graph.proofs.Whole.{limits}
use Rattle.sheet_layout.specs.declared.Shape.{Shape}
use Rattle.sheet_layout.specs.Layout.{method_at, exit_at, node_at, sheet_bytes, block_count, block_size, block_at}
use Rattle.sheet_layout.proofs.Blocks.{at_method, at_exit, at_node}
use Rattle.sheet.specs.Read.{SameWords}
use Rattle.sheet_formed.proofs.Judged.{Formed, formed}
use Rattle.rule_test.specs.Sheet.{sheet, WellFormed}
use Rattle.accept.specs.Check.{check_of}
use Rattle.work.specs.Meaning.{Worked, WorksOut, refused, wrong_length, overdrawn, passes}
use Rattle.work.proofs.Agree.{wrote, agree}
use Rattle.work.proofs.Words.{same_sheet}
use Rattle.work.proofs.Same.{StockUnder, EffectUnder, stock_settled, effect_settled}

module _ (f : List ℕ) where
  abbrev x : Shape
  x = shape_of (tables_of f)

  -- one sheet under another, block by block
  module _ (s r : List ℕ) (u : Under permits (graph_of f) (sheet f s) (sheet f r)) where
    method_under : (m : ℕ) → m < x.methods → StockUnder x.types (method_at x m) s r
    method_under m l k = let y = u.methods_under m (l, k) in (y.0.1, y.1)

    exit_under : (m e : ℕ) → m < x.methods → e < 9 → EffectUnder x.types (exit_at x m e) s r
    exit_under m e l h k = let y = u.exits_under m e l (l, h, k) in (y.0.2, y.1)

    node_under : (n : ℕ) → n < x.nodes → EffectUnder x.types (node_at x n) s r
    node_under n l k = let y = u.nodes_under n l (l, k) in (y.0.1, y.1)

  -- two well-formed sheets that are each under the other
  module _ (r q : List ℕ) (v : WellFormed f r) (w : WellFormed f q) (high : Under permits (graph_of f) (sheet f r) (sheet f q)) (low : Under permits (graph_of f) (sheet f q) (sheet f r)) where
    same_block : (b : ℕ) → b < block_count x → SameWords r q (block_at x b) (block_size x b)
    same_block b l = elim (dec_lt b (10 * x.methods)) [
      | yes h ↦ elim (ℕ_discrete (b % 10) 0) [
        | yes z ↦
            let e = at_method x b h z in
            stock_settled x few r q b g k (simp (lt-ltb _ _ h, eq-eqb _ _ z))
            (rw e (method_under r q high _ (omega arith))) (rw e (method_under q r low _ (omega arith)))
        | no z ↦
            let e = at_exit x b h z in
            effect_settled x few r q b g k (simp (lt-ltb _ _ h, ne_eqb _ _ z))
            (rw e (exit_under r q high _ _ (omega arith) (omega arith))) (rw e (exit_under q r low _ _ (omega arith) (omega arith)))
      ]
      | no h ↦
          let e = at_node x b (omega arith) in
          effect_settled x few r q b g k (simp (le-ltb b (10 * x.methods) (omega arith)))
          (rw e (node_under r q high _ (omega arith))) (rw e (node_under q r low _ (omega arith)))
    ]
      where
        few : x.types ≤ 6
        few = (limits f v.0).types

        g : Formed r x b
        g = formed r x b (v.2 b l)

        k : Formed q x b
        k = formed q x b (w.2 b l)

    -- have the same bytes.
    pub under_each : ((i : ℕ) → get_or r i 0 < 256) → ((i : ℕ) → get_or q i 0 < 256) → r ≡ q
    under_each a b = same_sheet x r q v.1 w.1 a b same_block

  -- There is only one sheet to write.
  pub one_sheet : (r q : List ℕ) → Worked f r → Worked f q → r ≡ q
  one_sheet r q v w = under_each r q v.well_formed w.well_formed (w.greatest r v.obeys) (v.greatest q w.obeys) v.bytes w.bytes

  module _ (s : List ℕ) where
    pub if_refused : {r : List ℕ} {a : Answer} → (judge_of f ≡ Pass → ⊥) → WorksOut f s r a → (a ≡ judge_of f) × (r ≡ s)
    if_refused n (refused m e v) = (says_only (judge_of f) v, e)
    if_refused n (wrong_length p m e v) = absurd (n p)
    if_refused n (overdrawn l w m o h v) = absurd (n w.well_formed.0)
    if_refused n (passes l w o v) = absurd (n w.well_formed.0)

    pub if_wrong : {r : List ℕ} {a : Answer} → judge_of f ≡ Pass → (length s ≡ sheet_bytes x → ⊥) → WorksOut f s r a → (a ≡ BadSheet) × (r ≡ s)
    if_wrong p n (refused m e v) = absurd (m p)
    if_wrong p n (wrong_length _ m e v) = (says_only BadSheet v, e)
    if_wrong p n (overdrawn l w m o h v) = absurd (n l)
    if_wrong p n (passes l w o v) = absurd (n l)

    if_worked : {r q : List ℕ} {a b : Answer} → judge_of f ≡ Pass → length s ≡ sheet_bytes x → WorksOut f s r a → WorksOut f s q b → (a ≡ b) × (r ≡ q)
    if_worked {r} {q} p l v w =
        let e = one_sheet r q (wrote f s r v p l).0 (wrote f s q w p l).0 in
        (sym (agree f s r v p l) ∙ ap (check_of f) e ∙ agree f s q w p l, e)

    pub only : (r q : List ℕ) {a b : Answer} → WorksOut f s r a → WorksOut f s q b → (a ≡ b) × (r ≡ q)
    only r q (refused n e v) w = let u = if_refused n w in (says_only (judge_of f) v ∙ sym u.0, e ∙ sym u.1)
    only r q (wrong_length p n e v) w = let u = if_wrong p n w in (says_only BadSheet v ∙ sym u.0, e ∙ sym u.1)
    only r q (overdrawn l k n o h v) w = if_worked k.well_formed.0 l (overdrawn l k n o h v) w
    only r q (passes l k o v) w = if_worked k.well_formed.0 l (passes l k o v) w
