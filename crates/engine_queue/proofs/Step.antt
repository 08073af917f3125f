-- A row that wrote something keeps what the queue engine keeps, if whatever it leads to waits afterwards.
--   row_wrote, row_idle
use Prim.Native.Nat.{ℕ, zero, suc, ◌+◌, ◌*◌, ◌<◌}
use mathlib.Core.Path.{◌≡◌, refl, sym, ap, subst, ◌∙◌}
use mathlib.Core.Logic.{◌⊎◌, inl, inr, ⊎_elim}
use mathlib.Core.Bool.{Bool, true, false, not, ◌||◌, true≢false}
use mathlib.Core.List.{List}
use native.Mathlib.Decide.{ℕ_discrete, dec_lt}
use native.Mathlib.Omega.{arith}
use lib.Dec.{eqb}
use borrow.Author.Tests.{eqb-true}
use Rattle.answer.specs.declared.Answer.TheVariants.{Pass}
use Rattle.graph_tables.specs.declared.Tables.{Tables}
use Rattle.graph_tables.specs.declared.Table.{Table}
use Rattle.graph_tables.specs.declared.Table.TheVariants.{Trailer, Methods, Nodes, Flow, Calls, Parents, Catches, Opening}
use Rattle.graph_tables.specs.Rows.{rows_of}
use Rattle.graph_tables.specs.Trailer.{tables_of}
use Rattle.graph_tables.specs.Kinds.{throw_kind}
use Rattle.graph_tables.specs.Fields.{node_kind, node_method, flow_from, flow_to, call_node, call_method, entry_of, node_number}
use Rattle.graph_refuse.proofs.Fit.{node_fit, flow_fit, call_fit}
use Rattle.graph_rows.specs.Rows.{target_of}
use Rattle.graph.specs.Judge.{judge_of}
use Rattle.graph.specs.Judgement.{shape_of}
use Rattle.graph.proofs.Passed.{Judged, judged}
use Rattle.sheet_layout.specs.declared.Shape.{Shape}
use Rattle.sheet_layout.specs.Layout.{stock_size, effect_size, method_at, exit_at, node_at, block_count, block_size, block_at}
use Rattle.sheet_layout.proofs.Blocks.{apart, size_pos, block_method, method_size, block_exit, exit_size, block_node, node_size}
use Rattle.sheet.specs.Read.{SameWords}
use Rattle.effect.specs.declared.Effect.{Effect}
use Rattle.rule_ask.specs.Gives.{node_effect, called_in, thrown_in}
use Rattle.rule_ask.specs.Walk.{Ask, block_of, meets, flow_walk, row_walk}
use Rattle.rule_ask.proofs.Asks.{LeavingAsks, to_handler, to_exit, CallAsks, after_call, into_call, from_call, RowAsks, at_entry, along_flow, at_return, at_throw, of_call, at_start, of_row}
use Rattle.rule_ask.proofs.Keeps.{own_keeps}
use Rattle.rule_ask.proofs.Shows.{row_shows}
use Rattle.engine_lower.proofs.Good.{Good, Done, height}
use Rattle.rule_ready.specs.Ready.{Ready}
use Rattle.engine_row.specs.Lowers.{State, sheet_of, wrote_of, lowered_to, lowers}
use Rattle.engine_row.proofs.Brought.{Brought, asks_brought}
use Rattle.engine_row.proofs.Done.{brought_done, done_next}
use Rattle.engine_row.proofs.Kept.{Placed, effect_at_lem, stock_at_lem, placed, others_same, met_kept, met_own}
use Rattle.engine_row.proofs.Still.{Wrote, Still, stay, hit, step}
use Rattle.rule_ready.proofs.Inside.{still_ready}
use Rattle.engine_flags.specs.Flags.{Waits, Woken, Awake, LeavesWait, CallWaits, RowWaits}
use Rattle.engine_queue.specs.Queue.{Met, Queue, NodeStays, FlowMoved}
use Rattle.engine_queue.proofs.Stays.{NodeSame, ExitSame, MethodSame, RowSame, stays}

-- all of the first n, or the other thing
each_or : {A : ℕ → Type 0} {B : Type 0} (n : ℕ) → ((y : ℕ) → y < n → A y ⊎ B) → ((y : ℕ) → y < n → A y) ⊎ B
each_or zero h = inl (λ y l. absurd (omega arith))
each_or {A} (suc n) h =
    ⊎_elim (λ a. ⊎_elim (λ b. inl (λ y l. elim (dec_lt y n) [
      | yes u ↦ a y u
      | no u ↦ let e : n ≡ y = omega arith in subst A e b
    ])) inr (h n (omega arith))) inr (each_or n (λ y l. h y (omega arith)))

-- one block stands at a word
block_one : (x : Shape) (b c : ℕ) → block_at x b ≡ block_at x c → b ≡ c
block_one x b c e = elim (dec_lt b c) [
  | yes l ↦ absurd (omega (arith, apart x b c l, size_pos x b))
  | no l ↦ elim (dec_lt c b) [
    | yes k ↦ absurd (omega (arith, apart x c b k, size_pos x c))
    | no k ↦ omega arith
  ]
]

module _ (f : List ℕ) (pass : judge_of f ≡ Pass) where
  abbrev t : Tables
  t = tables_of f

  abbrev x : Shape
  x = shape_of t

  j : Judged f t
  j = judged f t pass

  -- what lowering to some of L leaves of s
  record Step (L : Ask → Type 0) (s r : List ℕ) (wrote : Bool) : Type 0 where
    done : Done f pass s r (not wrote)
    met : (d : Ask) → Brought f pass d → meets x s d ≡ true → meets x r d ≡ true
    same : (c : ℕ) → c < block_count x → SameWords s r (block_at x c) (block_size x c) ⊎ ((a : Ask) × L a × Placed f pass c a)

  step_none : (L : Ask → Type 0) (s : List ℕ) → Good f pass s → Step L s s false
  step_none L s G = record {
    done = record { idle = λ e. refl; good = G; falls = λ e. absurd (true≢false e) };
    met = λ d h m. m;
    same = λ c l. inl (λ v p q. refl);
  }

  step_next : {L : Ask → Type 0} {s r : List ℕ} {wrote : Bool} (a : Ask) → L a → Brought f pass a → Step L s r wrote → Step L s (lowered_to x r a) (wrote || not (meets x r a))
  step_next {L} {s} {r} {wrote} a la h S =
      let p = placed f pass h in
      let G = S.done.good in
      record {
        done = done_next f pass wrote (meets x r a) S.done (brought_done f pass h r G);
        met = λ d k m. met_kept f pass r G p.0 p.1 p.2 (placed f pass k).2 (S.met d k m);
        same = λ c l. elim (ℕ_discrete c p.0) [
          | yes e ↦ inr (a, la, subst (λ n. Placed f pass n a) (sym e) p.2)
          | no e ↦ ⊎_elim (λ u. inl (λ v g q. u v g q ∙ sym (others_same f pass r G p.0 p.1 p.2 c e v g q))) inr (S.same c l)
        ];
      }

  -- what row k asks, of whichever sheets
  abbrev Asked : Table → ℕ → Ask → Type 0
  Asked table k a = (r : List ℕ) × (q : List ℕ) × RowAsks f t x r q table k a

  abbrev walked : Table → ℕ → List ℕ → State
  walked table k s = row_walk f t x sheet_of (lowers x) table k (s, false)

  row_step : (table : Table) (k : ℕ) → k < rows_of t table → (s : List ℕ) → Good f pass s → Step (Asked table k) s (sheet_of (walked table k s)) (wrote_of (walked table k s))
  unfolding lowers
  row_step table k l s G =
      own_keeps f t x sheet_of (lowers x) (λ z. Step (Asked table k) s (sheet_of z) (wrote_of z)) table k
      (λ w y z a pw py h pz. step_next a (sheet_of w, sheet_of y, h) (asks_brought f pass (sheet_of w) (sheet_of y) pw.done.good py.done.good (of_row table k a l h)) pz)
      (s, false) (step_none (Asked table k) s G)

  -- the flags of the block c are set
  record Flagged (a : List ℕ) (c : ℕ) : Type 0 where
    node : (n : ℕ) → 10 * t.methods + n ≡ c → Waits a n
    exit : (m y : ℕ) → m < t.methods → y < 9 → 10 * m + 1 + y ≡ c → Waits a (512 + m)
    method : (m : ℕ) → m < t.methods → 10 * m ≡ c → Waits a (576 + m)

  -- so they are of the block at the word w
  abbrev Told : List ℕ → ℕ → Type 0
  Told a w = (c : ℕ) × (w ≡ block_at x c) × Flagged a c

  told_node : (a : List ℕ) (n : ℕ) → Waits a n → Told a (node_at x n)
  told_node a n w = (
    10 * t.methods + n,
    sym (block_node x n),
    record {
      node = λ i e. subst (λ (v : ℕ). Waits a v) (omega arith) w;
      exit = λ m y l k e. absurd (omega arith);
      method = λ m l e. absurd (omega arith);
    },
  )

  told_exit : (a : List ℕ) (m y : ℕ) → m < t.methods → y < 9 → Waits a (512 + m) → Told a (exit_at x m y)
  told_exit a m y l k w = (
    10 * m + 1 + y,
    sym (block_exit x m l y k),
    record {
      node = λ i e. absurd (omega arith);
      exit = λ i z u v e. let p : m ≡ i = omega arith in subst (λ (v : ℕ). Waits a (512 + v)) p w;
      method = λ i u e. absurd (omega arith);
    },
  )

  told_method : (a : List ℕ) (m : ℕ) → m < t.methods → Waits a (576 + m) → Told a (method_at x m)
  told_method a m l w = (
    10 * m,
    sym (block_method x m l),
    record {
      node = λ i e. absurd (omega arith);
      exit = λ i z u v e. absurd (omega arith);
      method = λ i u e. let p : m ≡ i = omega arith in subst (λ (v : ℕ). Waits a (576 + v)) p w;
    },
  )

  method_inside : (n : ℕ) → n < t.nodes → node_method f t n < t.methods
  method_inside n l = (node_fit f t n (j.nodes n l)).method

  exception_of : (n : ℕ) → n < t.nodes → eqb (node_kind f t n) throw_kind ≡ true → node_number f t n < 8
  exception_of n l g = omega (arith, (node_fit f t n (j.nodes n l)).exception (eqb-true _ _ g))

  leaving_told : (a : List ℕ) (c o n e : ℕ) (y : Effect) {d : Ask} → n < t.nodes → e < 8 → LeavesWait f t a n e → LeavingAsks f t x c o n e y d → Told a (block_of d)
  leaving_told a c o n e y l small w (to_handler i u h) = told_node a (target_of f t Catches i) (w.handlers u i h)
  leaving_told a c o n e y l small w (to_exit u) = told_exit a (node_method f t n) (1 + e) (method_inside n l) (omega arith) (w.exit u)

  row_told : (a : List ℕ) (table : Table) (k : ℕ) → k < rows_of t table → RowWaits f t a table k → (r q : List ℕ) {d : Ask} → RowAsks f t x r q table k d → Told a (block_of d)
  unfolding called_in
  row_told a table k l w r q (at_entry m) = told_node a (entry_of f m) w
  row_told a table k l w r q (along_flow i h) = told_node a (flow_to f t i) w
  row_told a table k l w r q (at_return n m h) = told_exit a (node_method f t n) 0 (method_inside n l) (omega arith) (w.returns h)
  row_told a table k l w r q (at_throw n d m p g h) = leaving_told a 4 6 n (node_number f t n) (node_effect x q n) l (exception_of n l g) (w.throws g) h
  row_told a table k l w r q (of_call i d p h) = call_told i d h l w
    where
      call_told : (i : ℕ) (d : Ask) → CallAsks f t x (called_in f t x r i) q d → i < t.calls → CallWaits f t a i → Told a (block_of d)
      call_told i d (after_call n h u) l w = told_node a (target_of f t Flow n) (w.after n u)
      call_told i d (into_call h) l w = told_method a (call_method f t i) (call_fit f t i (j.calls i l)).method w.into
      call_told i d (from_call e b small h g) l w =
          leaving_told a 9 10 (call_node f t i) e (thrown_in x q (called_in f t x r i) e) (call_fit f t i (j.calls i l)).node small (w.thrown e small) g

  placed_at : {c : ℕ} {d : Ask} → Placed f pass c d → block_of d ≡ block_at x c
  placed_at (effect_at_lem r e q st) = refl
  placed_at (stock_at_lem r h q st) = refl

  -- each block that does not stand as it was has its flags set
  module _ {table : Table} {k : ℕ} (l : k < rows_of t table) {s r : List ℕ} {wrote : Bool} (S : Step (Asked table k) s r wrote) (b : List ℕ) (w : RowWaits f t b table k) where
    same_or_flagged : (c : ℕ) → c < block_count x → SameWords s r (block_at x c) (block_size x c) ⊎ Flagged b c
    same_or_flagged c u = ⊎_elim inl (λ z.
        let d = row_told b table k l w z.1.0 z.1.1 z.1.2 in
        inr (subst (Flagged b) (block_one x d.0 c (sym d.1 ∙ placed_at z.2)) d.2)) (S.same c u)

    node_or : (n : ℕ) → n < t.nodes → NodeSame f t x s r n ⊎ Waits b n
    node_or n u =
        ⊎_elim (λ h. inl (subst (λ v. SameWords s r v (effect_size x.types)) (block_node x n) (subst (SameWords s r (block_at x (10 * t.methods + n))) (node_size x n) h)))
        (λ g. inr (g.node n refl)) (same_or_flagged (10 * t.methods + n) (omega arith))

    exit_or : (m y : ℕ) → m < t.methods → y < 9 → ExitSame f t x s r m y ⊎ Waits b (512 + m)
    exit_or m y u v =
        ⊎_elim (λ h. inl (subst (λ v. SameWords s r v (effect_size x.types)) (block_exit x m u y v) (subst (SameWords s r (block_at x (10 * m + 1 + y))) (exit_size x m u y v) h)))
        (λ g. inr (g.exit m y u v refl)) (same_or_flagged (10 * m + 1 + y) (omega arith))

    method_or : (m : ℕ) → m < t.methods → MethodSame f t x s r m ⊎ Waits b (576 + m)
    method_or m u =
        ⊎_elim (λ h. inl (subst (λ v. SameWords s r v (stock_size x.types)) (block_method x m u) (subst (SameWords s r (block_at x (10 * m))) (method_size x m u) h)))
        (λ g. inr (g.method m u refl)) (same_or_flagged (10 * m) (omega arith))

    -- so a row comes from blocks that stand as they were, or it is awake
    row_or : (table : Table) (k : ℕ) → k < rows_of t table → RowSame f t x s r table k ⊎ Awake f t b table k
    row_or Trailer k u = inl tt
    row_or Methods k u = inl tt
    row_or Nodes k u = node_or k u
    row_or Flow k u = node_or (flow_from f t k) (flow_fit f t k (j.flows k u)).from
    row_or Calls k u =
        let fit = call_fit f t k (j.calls k u) in
        ⊎_elim (λ a. ⊎_elim (λ e. ⊎_elim (λ m. inl (a, e, m)) (λ g. inr (inr (inr g))) (method_or (node_method f t (call_node f t k)) (method_inside (call_node f t k) fit.node)))
        (λ g. inr (inr (inl g))) (each_or 9 (λ y v. exit_or (call_method f t k) y fit.method v)))
        (λ g. inr (inl g)) (node_or (call_node f t k) fit.node)
    row_or Parents k u = inl tt
    row_or Catches k u = inl tt
    row_or Opening k u = inl tt

  -- a flow row
  module _ (k : ℕ) (l : k < t.flows) (s : List ℕ) (G : Good f pass s) where
    abbrev left : List ℕ
    left = sheet_of (walked Flow k s)

    flow_at : (r q : List ℕ) {d : Ask} → RowAsks f t x r q Flow k d → block_of d ≡ node_at x (flow_to f t k)
    flow_at r q (along_flow i h) = refl

    flow_apart : (n : ℕ) → n < t.nodes → (flow_to f t k ≡ n → ⊥) → NodeStays f t x s left n
    flow_apart n u ne =
        ⊎_elim (λ h. subst (λ v. SameWords s left v (effect_size x.types)) (block_node x n) (subst (SameWords s left (block_at x (10 * t.methods + n))) (node_size x n) h))
        (λ z.
        let e = block_one x (10 * t.methods + flow_to f t k) (10 * t.methods + n) (block_node x (flow_to f t k) ∙ sym (flow_at z.1.0 z.1.1 z.1.2) ∙ placed_at z.2) in
        absurd (ne (omega arith))) ((row_step Flow k l s G).same (10 * t.methods + n) (omega arith))

    flow_kept : (i : ℕ) → i < t.flows → NodeStays f t x s left (flow_from f t i) → Met f t x s Flow i → Met f t x left Flow i
    flow_kept i u h m d q =
        let asked = stays f t x s left Flow i h q in
        (row_step Flow k l s G).met d (asks_brought f pass s s G G (of_row Flow i d u asked)) (m d asked)

    flow_met : {d : Ask} → RowAsks f t x s s Flow k d → Brought f pass d → meets x left d ≡ true
    unfolding flow_walk lowers
    flow_met (along_flow i q) b = let p = placed f pass b in rw q (met_own f pass s G p.0 p.1 p.2)

    flow_own : NodeStays f t x s left (flow_from f t k) → Met f t x left Flow k
    flow_own h d q =
        let asked = stays f t x s left Flow k h q in
        flow_met asked (asks_brought f pass s s G G (of_row Flow k d l asked))

    flow_left : FlowMoved f t x k s left
    flow_left = record { apart = flow_apart; kept = flow_kept; own = flow_own }

  awake_kept : {a b : List ℕ} → Woken a b → (table : Table) (k : ℕ) → Awake f t a table k → Awake f t b table k
  awake_kept w Trailer k h = h
  awake_kept w Methods k h = h
  awake_kept w Nodes k h = w.kept k h
  awake_kept w Flow k h = w.kept (flow_from f t k) h
  awake_kept w Calls k h = ⊎_elim (λ u. inl (w.kept _ u)) (λ g. inr (⊎_elim (λ u. inl (w.kept _ u)) (λ u. inr (w.kept _ u)) g)) h
  awake_kept w Parents k h = h
  awake_kept w Catches k h = h
  awake_kept w Opening k h = h

-- of the file's own tables and shape
module _ (f : List ℕ) (s a : List ℕ) (Q : Queue f (tables_of f) (shape_of (tables_of f)) s a) (table : Table) (k : ℕ) (l : k < rows_of (tables_of f) table) where
  abbrev u : Tables
  u = tables_of f

  abbrev z : Shape
  z = shape_of u

  own_wrote : (r b : List ℕ) → (r, true) ≡ row_walk f u z sheet_of (lowers z) table k (s, false) → RowWaits f u b table k → Woken a b → Queue f u z r b × (height z r < height z s)
  own_wrote r b e w v =
      let pass = Q.passed in
      let G = Q.good in
      let S : Step f pass (Asked f pass table k) s r true = subst (λ y. Step f pass (Asked f pass table k) s (sheet_of y) (wrote_of y)) (sym e) (row_step f pass table k l s G) in (
        record {
          ready = still_ready Q.ready (S.done.good.long ∙ sym G.long);
          passed = pass;
          good = S.done.good;
          wide = v.long ∙ Q.wide;
          start = S.met _ (asks_brought f pass s s G G at_start) Q.start;
          rows = λ table' i h.
              ⊎_elim (λ p. inl (awake_kept f pass v table' i p))
              (λ m. ⊎_elim (λ same. inr (λ d q.
              let asked = stays f u z s r table' i same q in
              S.met d (asks_brought f pass s s G G (of_row table' i d h asked)) (m d asked))) inl (row_or f pass l S b w table' i h)) (Q.rows table' i h);
        },
        S.done.falls refl,
      )

  own_idle : (r : List ℕ) → (r, false) ≡ row_walk f u z sheet_of (lowers z) table k (s, false) → (r ≡ s) × Met f u z s table k
  own_idle r e =
      let S : Step f Q.passed (Asked f Q.passed table k) s r false = subst (λ y. Step f Q.passed (Asked f Q.passed table k) s (sheet_of y) (wrote_of y)) (sym e) (row_step f Q.passed table k l s Q.good) in
      (S.done.idle refl, λ d h. met d h (meets z s d) refl)
    where
      met : (d : Ask) → RowAsks f u z s s table k d → (b : Bool) → meets z s d ≡ b → meets z s d ≡ true
      met d h true m = m
      met d h false m =
          absurd (true≢false (sym (row_shows f u z sheet_of (lowers z) s (Wrote z s) (Still z s) (λ y q. q.0) (stay z s) (step z s) l h (hit z s d m) (s, false) (inr (refl, refl))) ∙ sym (ap wrote_of e)))

  own_flow : (r : List ℕ) (w : Bool) → (r, w) ≡ row_walk f u z sheet_of (lowers z) table k (s, false) → table ≡ Flow → FlowMoved f u z k s r
  own_flow r w e g =
      let h : (r, w) ≡ row_walk f u z sheet_of (lowers z) Flow k (s, false) = subst (λ y. (r, w) ≡ row_walk f u z sheet_of (lowers z) y k (s, false)) g e in
      subst (FlowMoved f u z k s) (sym (ap sheet_of h)) (flow_left f Q.passed k (subst (λ y. k < rows_of u y) g l) s Q.good)

-- and of tables and a shape that are the file's own
pub own : {f : List ℕ} {t : Tables} {x : Shape} {s : List ℕ} → Ready f t x s → (P : Tables → Shape → Type 0) → P (tables_of f) (shape_of (tables_of f)) → P t x
own ready P p = subst (P _) (sym ready.shaped) (subst (λ y. P y (shape_of y)) (sym ready.own) p)

module _ {f : List ℕ} {t : Tables} {x : Shape} {s a : List ℕ} (Q : Queue f t x s a) (table : Table) (k : ℕ) (l : k < rows_of t table) where
  pub row_wrote : {r b : List ℕ} → (r, true) ≡ row_walk f t x sheet_of (lowers x) table k (s, false) → RowWaits f t b table k → Woken a b → Queue f t x r b × (height x r < height x s)
  row_wrote {r} {b} =
      own Q.ready
      (λ y z. Queue f y z s a → k < rows_of y table → (r, true) ≡ row_walk f y z sheet_of (lowers z) table k (s, false) → RowWaits f y b table k → Woken a b → Queue f y z r b × (height z r < height z s))
      (λ q i. own_wrote f s a q table k i r b) Q l

  pub row_idle : {r : List ℕ} → (r, false) ≡ row_walk f t x sheet_of (lowers x) table k (s, false) → (r ≡ s) × Met f t x s table k
  row_idle {r} =
      own Q.ready (λ y z. Queue f y z s a → k < rows_of y table → (r, false) ≡ row_walk f y z sheet_of (lowers z) table k (s, false) → (r ≡ s) × Met f y z s table k)
      (λ q i. own_idle f s a q table k i r) Q l

  pub row_flow : {r : List ℕ} (w : Bool) → (r, w) ≡ row_walk f t x sheet_of (lowers x) table k (s, false) → table ≡ Flow → FlowMoved f t x k s r
  row_flow {r} w =
      own Q.ready (λ y z. Queue f y z s a → k < rows_of y table → (r, w) ≡ row_walk f y z sheet_of (lowers z) table k (s, false) → table ≡ Flow → FlowMoved f y z k s r)
      (λ q i. own_flow f s a q table k i r w) Q l
