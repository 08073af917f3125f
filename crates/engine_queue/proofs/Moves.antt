-- The queue engine's steps, one after the other.
--   moved_none, moved_next, stretch_more, node_cleared, passing_more, spread_kept, round-quiet
use Prim.Native.Nat.{ℕ, ◌+◌, ◌≤◌, ◌<◌}
use mathlib.Core.Path.{◌≡◌, refl, sym, ap, subst, ◌∙◌}
use mathlib.Core.Logic.{◌⊎◌, inl, inr, ⊎_elim}
use mathlib.Core.Bool.{Bool, true, false, ◌&&◌, ◌||◌, and-true, true≢false, false≢true}
use mathlib.Core.List.{List}
use native.Mathlib.Decide.{ℕ_discrete, dec_lt}
use native.Mathlib.Omega.{arith}
use lib.Dec.{leb}
use borrow.Author.Tests.{eqb-true, leb-true}
use Rattle.words.proofs.Tests.{and_l}
use lib.ListN.{length, get_or, set, length-set}
use lib.Seq.{get_or-set_same, get_or-set_other}
use Rattle.graph_tables.specs.declared.Tables.{Tables}
use Rattle.graph_tables.specs.declared.Table.{Table}
use Rattle.graph_tables.specs.declared.Table.TheVariants.{Trailer, Methods, Nodes, Flow, Calls, Parents, Catches, Opening}
use Rattle.graph_tables.specs.Rows.{rows_of}
use Rattle.graph_tables.specs.Kinds.{draw_kind, call_kind, return_kind, throw_kind}
use Rattle.graph_tables.specs.Fields.{node_kind, node_method, flow_from, flow_to, call_node, call_method}
use Rattle.graph_refuse.proofs.Fit.{flow_fit, call_fit}
use Rattle.graph_rows.specs.Rows.{flow_of, calls_of}
use Rattle.graph_rows.proofs.Stretches.{in_stretch, of_stretch}
use Rattle.graph.proofs.Passed.{judged}
use Rattle.sheet_layout.specs.declared.Shape.{Shape}
use Rattle.rule_ask.specs.Gives.{turned, goes_in}
use Rattle.rule_ask.specs.Walk.{Ask, meets, row_walk}
use Rattle.rule_ask.proofs.Asks.{RowAsks, at_entry, along_flow, at_return, at_throw, of_call, Asks, at_start, of_row}
use Rattle.rule_ask.proofs.Turned.{turned_inside, turned_twice}
use Rattle.rule_ready.specs.Ready.{Ready}
use Rattle.engine_row.specs.Lowers.{sheet_of, lowers}
use Rattle.rule_ready.proofs.Inside.{limit, sorted, method_of, call_node_inside, call_method_inside}
use Rattle.engine_flags.specs.Flags.{Waits, Woken, Awake, RowWaits, Spread, Able, Clear}
use Rattle.engine_flags.proofs.Flags.{clear_more}
use Rattle.engine_queue.proofs.Step.{row_wrote, row_idle, row_flow}
use Rattle.engine_queue.specs.Queue.{Met, NodeStays, FlowMoved, Leaves, Queue, Moved, RowMoved, StretchMoved, NodeMet, NodeMoved, Visited, Passing, Quiet, Round, Entered, Settled}

-- rows of these tables ask nothing themselves
abbrev Silent : Table → Type 0
Silent Trailer = Unit {0}
Silent Methods = ⊥
Silent Nodes = ⊥
Silent Flow = ⊥
Silent Calls = ⊥
Silent Parents = Unit {0}
Silent Catches = Unit {0}
Silent Opening = Unit {0}

silent : (f : List ℕ) (t : Tables) (x : Shape) (s : List ℕ) {table : Table} {k : ℕ} {d : Ask} → RowAsks f t x s s table k d → Silent table → ⊥
silent f t x s (at_entry m) z = z
silent f t x s (along_flow k q) z = z
silent f t x s (at_return n m q) z = z
silent f t x s (at_throw n a m q g h) z = z
silent f t x s (of_call k a q h) z = z

module _ {f : List ℕ} {t : Tables} {x : Shape} where
  pub able : {s a : List ℕ} → Queue f t x s a → Able f t a
  able Q = record { passed = Q.ready.passed; own = Q.ready.own; wide = Q.wide }

  pub moved_none : {s a : List ℕ} → Queue f t x s a → Moved f t x s a s a false
  moved_none Q = record { queue = Q; falls = λ e. absurd (false≢true e); idle = λ e. (refl, refl) }

  pub moved_next : {s a r b q c : List ℕ} (v w : Bool) → Moved f t x s a r b v → Moved f t x r b q c w → Moved f t x s a q c (v || w)
  moved_next true true m n = record { queue = n.queue; falls = λ e. omega (arith, m.falls refl, n.falls refl); idle = λ e. absurd (true≢false e) }
  moved_next true false m n = record { queue = n.queue; falls = λ e. rw (n.idle refl).0 (m.falls refl); idle = λ e. absurd (true≢false e) }
  moved_next false true m n = record { queue = n.queue; falls = λ e. rw (m.idle refl).0 at (n.falls refl); idle = λ e. absurd (true≢false e) }
  moved_next false false m n = record { queue = n.queue; falls = λ e. absurd (false≢true e); idle = λ e. ((n.idle refl).0 ∙ (m.idle refl).0, (n.idle refl).1 ∙ (m.idle refl).1) }

  -- one row more of a stretch
  pub stretch_none : {s a : List ℕ} (table : Table) (j : ℕ) → Queue f t x s a → StretchMoved f t x table j j s a s a false
  stretch_none table j Q = record { moved = moved_none Q; met = λ e i l h. absurd (omega arith); flow = λ e n l h. (λ v p q. refl, λ i p q. absurd (omega arith)) }

  pub stretch_more : {s a r b q c : List ℕ} (table : Table) {l k : ℕ} (v w : Bool) → l ≤ k → StretchMoved f t x table l k s a r b v → RowMoved f t x table k r b q c w
      → StretchMoved f t x table l (k + 1) s a q c (v || w)
  stretch_more {s} {a} {r} {b} {q} {c} table {l} {k} v w d m n = record { moved = moved_next v w m.moved n.moved; met = λ e i p h. met v w m n e i p h; flow = flow }
    where
      flow : table ≡ Flow → (i : ℕ) → i < t.nodes → ((j : ℕ) → l ≤ j → j < k + 1 → Leaves f t x i j) → NodeStays f t x s q i × ((j : ℕ) → l ≤ j → j < k + 1 → Met f t x q Flow j)
      flow e i u h = (
        λ z p o. before.0 z p o ∙ same z p o,
        λ j p o. elim (dec_lt j k) [
          | yes g ↦ step.kept j (h j p (omega arith)).0 (rw (h j p (omega arith)).1 same) (before.1 j p g)
          | no g ↦ let c : k ≡ j = omega arith in subst (λ y. Met f t x q Flow y) c (step.own (rw (h k d (omega arith)).1 same))
        ],
      )
        where
          before : NodeStays f t x s r i × ((j : ℕ) → l ≤ j → j < k → Met f t x r Flow j)
          before = m.flow e i u (λ j p o. h j p (omega arith))

          step : FlowMoved f t x k r q
          step = n.flow e

          same : NodeStays f t x r q i
          same = step.apart i u (h k d (omega arith)).2

      met : (v w : Bool) → StretchMoved f t x table l k s a r b v → RowMoved f t x table k r b q c w → (v || w) ≡ false → (i : ℕ) → l ≤ i → i < k + 1 → Met f t x s table i
      met true w m n e i p h = absurd (true≢false e)
      met false true m n e i p h = absurd (true≢false e)
      met false false m n e i p h = elim (dec_lt i k) [
        | yes u ↦ m.met refl i p u
        | no u ↦
            let z : k ≡ i = omega arith in
            subst (λ y. Met f t x s table y) z (subst (λ y. Met f t x y table k) (m.moved.idle refl).0 (n.met refl))
      ]

  -- a node whose rows have all that they ask need not wait
  pub node_cleared : {s a : List ℕ} (n : ℕ) → n < t.nodes → Queue f t x s a → NodeMet f t x s n → Queue f t x s (set a n 0)
  node_cleared {s} {a} n l Q m = record {
    ready = Q.ready;
    passed = Q.passed;
    good = Q.good;
    wide = length-set a n 0 ∙ Q.wide;
    start = Q.start;
    rows = λ table k h. ⊎_elim (rows table k h) inr (Q.rows table k h);
  }
    where
      n_small : n < 512
      n_small = omega (arith, (limit Q.ready).nodes)

      other : (i : ℕ) → (i ≡ n → ⊥) → Waits a i → Waits (set a n 0) i
      other i ne w = omega (arith, get_or-set_other a n i 0 0 ne)

      rows : (table : Table) (k : ℕ) → k < rows_of t table → Awake f t a table k → Awake f t (set a n 0) table k ⊎ Met f t x s table k
      rows Trailer k h w = inl w
      rows Methods k h w = inl w
      rows Nodes k h w = elim (ℕ_discrete k n) [
        | yes e ↦ inr (subst (λ y. Met f t x s Nodes y) (sym e) m.node)
        | no e ↦ inl (other k e w)
      ]
      rows Flow k h w = elim (ℕ_discrete (flow_from f t k) n) [
        | yes e ↦ inr (m.flow k h e)
        | no e ↦ inl (other (flow_from f t k) e w)
      ]
      rows Calls k h w = elim (ℕ_discrete (call_node f t k) n) [
        | yes e ↦ inr (m.calls k h e)
        | no e ↦ inl (⊎_elim (λ u. inl (other (call_node f t k) e u))
            (λ g. inr (⊎_elim (λ u. inl (other (512 + call_method f t k) (λ z. omega (arith, n_small)) u)) (λ u. inr (other (576 + node_method f t (call_node f t k)) (λ z. omega (arith, n_small)) u)) g)) w)
      ]
      rows Parents k h w = inl w
      rows Catches k h w = inl w
      rows Opening k h w = inl w

  -- one node more of a pass
  pub passing_none : {s a : List ℕ} (backwards : Bool) → Queue f t x s a → Passing f t x backwards 0 s a s a false
  passing_none backwards Q = record { queue = Q; falls = λ e. absurd (false≢true e); idle = λ e. (refl, λ j l. absurd (omega arith), λ i l. refl) }

  pub passing_more : {s a r b q c : List ℕ} (backwards : Bool) (k : ℕ) (v w : Bool) → k < t.nodes → Passing f t x backwards k s a r b v
      → Visited f t x (turned backwards t.nodes k) r b q c w → Passing f t x backwards (k + 1) s a q c (v || w)
  passing_more backwards k true true l m n = record { queue = n.queue; falls = λ e. omega (arith, m.falls refl, n.falls refl); idle = λ e. absurd (true≢false e) }
  passing_more backwards k true false l m n = record { queue = n.queue; falls = λ e. rw (n.idle refl).0 (m.falls refl); idle = λ e. absurd (true≢false e) }
  passing_more backwards k false true l m n = record { queue = n.queue; falls = λ e. rw (m.idle refl).0 at (n.falls refl); idle = λ e. absurd (true≢false e) }
  passing_more {s} {a} {r} {b} {q} {c} backwards k false false l m n = record {
    queue = n.queue;
    falls = λ e. absurd (false≢true e);
    idle = λ e. ((n.idle refl).0 ∙ (m.idle refl).0, nodes, λ i h. (n.idle refl).2 i (λ z. omega (arith, turned_inside backwards t.nodes k l)) ∙ (m.idle refl).2 i h);
  }
    where
      nodes : (j : ℕ) → j < k + 1 → get_or c (turned backwards t.nodes j) 0 ≡ 0
      nodes j h = elim (ℕ_discrete (turned backwards t.nodes j) (turned backwards t.nodes k)) [
        | yes e ↦ ap (λ i. get_or c i 0) e ∙ (n.idle refl).1
        | no e ↦ elim (dec_lt j k) [
          | yes u ↦ (n.idle refl).2 _ e ∙ (m.idle refl).1 j u
          | no u ↦ let z : j ≡ k = omega arith in absurd (e (ap (turned backwards t.nodes) z))
        ]
      ]

  -- the methods' flags are passed on
  pub spread_kept : {s a b : List ℕ} → Queue f t x s a → Spread f t a b → Queue f t x s b
  spread_kept {s} {a} {b} Q S = record {
    ready = Q.ready;
    passed = Q.passed;
    good = Q.good;
    wide = S.long ∙ Q.wide;
    start = Q.start;
    rows = λ table k h. ⊎_elim (λ w. inl (rows table k h w)) inr (Q.rows table k h);
  }
    where
      small : (n : ℕ) → n < t.nodes → n < 512
      small n l = omega (arith, (limit Q.ready).nodes)

      rows : (table : Table) (k : ℕ) → k < rows_of t table → Awake f t a table k → Awake f t b table k
      rows Trailer k h w = w
      rows Methods k h w = w
      rows Nodes k h w = S.nodes k (small k h) w
      rows Flow k h w = S.nodes (flow_from f t k) (small (flow_from f t k) (flow_fit f t k ((judged f t Q.ready.passed).flows k h)).from) w
      rows Calls k h w = inl (S.calls k h w)
      rows Parents k h w = w
      rows Catches k h w = w
      rows Opening k h w = w

  pub round_done : {s a b r c : List ℕ} (backwards wrote : Bool) → Queue f t x s a → Spread f t a b → Passing f t x backwards t.nodes s b r c wrote → Round f t x s r c wrote
  round_done {s} {a} {b} {r} {c} backwards wrote Q S P = record {
    queue = P.queue;
    falls = P.falls;
    quiet = λ e. record {
      nodes = λ n l. subst (λ i. get_or c i 0 ≡ 0) (turned_twice backwards t.nodes n l) ((P.idle e).1 (turned backwards t.nodes n) (turned_inside backwards t.nodes n l));
      methods = λ i l h. (P.idle e).2 i (omega (arith, (limit Q.ready).nodes)) ∙ S.methods i l h;
    };
  }

  -- where no flag is set everything asked is met
  pub quiet_settled : {s a : List ℕ} → Queue f t x s a → Quiet f t x a → Settled f t x s
  quiet_settled {s} {a} Q q = record { passed = Q.passed; good = Q.good; met = met }
    where
      asleep : (table : Table) (k : ℕ) → k < rows_of t table → Awake f t a table k → ⊥
      asleep Trailer k h w = w
      asleep Methods k h w = w
      asleep Nodes k h w = omega (arith, q.nodes k h)
      asleep Flow k h w = omega (arith, q.nodes (flow_from f t k) (flow_fit f t k ((judged f t Q.ready.passed).flows k h)).from)
      asleep Calls k h w =
          let m = call_method_inside Q.ready k h in
          let n = call_node_inside Q.ready k h in
          let o = method_of Q.ready (call_node f t k) n in
          ⊎_elim (λ (u : Waits a (call_node f t k)). omega (arith, q.nodes (call_node f t k) n))
          (λ g. ⊎_elim (λ (u : Waits a (512 + call_method f t k)). omega (arith, q.methods (512 + call_method f t k) (omega arith) (omega (arith, (limit Q.ready).methods))))
          (λ (u : Waits a (576 + node_method f t (call_node f t k))). omega (arith, q.methods (576 + node_method f t (call_node f t k)) (omega arith) (omega (arith, (limit Q.ready).methods)))) g) w
      asleep Parents k h w = w
      asleep Catches k h w = w
      asleep Opening k h w = w

      met : (d : Ask) → Asks f t x s s d → meets x s d ≡ true
      met d at_start = Q.start
      met d (of_row table k o l h) = ⊎_elim (λ w. absurd (asleep table k l w)) (λ m. m o h) (Q.rows table k l)

  -- every node waits at first
  pub all_wait : {s a : List ℕ} → Entered f t x t.methods s → length a ≡ 4096 → ((i : ℕ) → i < 512 → Waits a i) → Queue f t x s a
  all_wait {s} {a} E l w = record {
    ready = E.ready;
    passed = E.passed;
    good = E.good;
    wide = l;
    start = E.start;
    rows = rows;
  }
    where
      small : (n : ℕ) → n < t.nodes → n < 512
      small n l = omega (arith, (limit E.ready).nodes)

      rows : (table : Table) (k : ℕ) → k < rows_of t table → Awake f t a table k ⊎ Met f t x s table k
      rows Trailer k h = inr (λ d p. absurd (silent f t x s p tt))
      rows Methods k h = inr (E.entries k h)
      rows Nodes k h = inl (w k (small k h))
      rows Flow k h = inl (w (flow_from f t k) (small (flow_from f t k) (flow_fit f t k ((judged f t E.ready.passed).flows k h)).from))
      rows Calls k h = inl (inl (w (call_node f t k) (small (call_node f t k) (call_node_inside E.ready k h))))
      rows Parents k h = inr (λ d p. absurd (silent f t x s p tt))
      rows Catches k h = inr (λ d p. absurd (silent f t x s p tt))
      rows Opening k h = inr (λ d p. absurd (silent f t x s p tt))

  -- sheets and areas keep their lengths
  pub ready_long : {s r : List ℕ} → Ready f t x s → Ready f t x r → length r ≡ length s
  ready_long p q = q.long ∙ sym p.long

  pub wide_long : {s a r b : List ℕ} → Queue f t x s a → Queue f t x r b → length b ≡ length a
  wide_long p q = q.wide ∙ sym p.wide

  -- row k was walked
  module _ {s a : List ℕ} (Q : Queue f t x s a) (table : Table) (k : ℕ) (l : k < rows_of t table) where
    pub row_true : {r b : List ℕ} (w : Bool) → w ≡ true → (r, w) ≡ row_walk f t x sheet_of (lowers x) table k (s, false) → Woken a b → RowWaits f t b table k → RowMoved f t x table k s a r b true
    row_true {r} w e h v g =
        let z = row_wrote Q table k l (subst (λ y. (r, y) ≡ row_walk f t x sheet_of (lowers x) table k (s, false)) e h) g v in
        record { moved = record { queue = z.0; falls = λ y. z.1; idle = λ y. absurd (true≢false y) }; met = λ y. absurd (true≢false y); flow = row_flow Q table k l w h }

    pub row_false : {r : List ℕ} (w : Bool) → w ≡ false → (r, w) ≡ row_walk f t x sheet_of (lowers x) table k (s, false) → RowMoved f t x table k s a r a false
    row_false {r} w e h =
        let z = row_idle Q table k l (subst (λ y. (r, y) ≡ row_walk f t x sheet_of (lowers x) table k (s, false)) e h) in
        record {
          moved = record { queue = subst (λ y. Queue f t x y a) (sym z.0) Q; falls = λ y. absurd (false≢true y); idle = λ y. (z.0, refl) };
          met = λ y. z.1;
          flow = row_flow Q table k l w h;
        }

  -- the rows of node n, by its kind
  module _ {s a : List ℕ} (Q : Queue f t x s a) (n : ℕ) where
    no_end : node_kind f t n < return_kind → Met f t x s Nodes n
    no_end h d (at_return i m q) = absurd (omega (arith, eqb-true (node_kind f t i) return_kind q))
    no_end h d (at_throw i a m q g p) = absurd (omega (arith, eqb-true (node_kind f t i) throw_kind g))

    no_flow : draw_kind < node_kind f t n → (k : ℕ) → flow_from f t k ≡ n → Met f t x s Flow k
    unfolding goes_in
    no_flow h k e d (along_flow i q) = absurd (omega (arith, leb-true (node_kind f t (flow_from f t i)) draw_kind (and_l (leb (node_kind f t (flow_from f t i)) draw_kind) _ q), ap (node_kind f t) e))

    no_calls : (node_kind f t n ≡ call_kind → ⊥) → (k : ℕ) → k < t.calls → call_node f t k ≡ n → Met f t x s Calls k
    no_calls h k l e d p = absurd (h (ap (node_kind f t) (sym e) ∙ (call_fit f t k ((judged f t Q.ready.passed).calls k l)).kind))

    pub node_calls : {r b : List ℕ} (w : Bool) → node_kind f t n ≡ call_kind → StretchMoved f t x Calls (calls_of f t n).from (calls_of f t n).to s a r b w → NodeMoved f t x n s a r b w
    node_calls w h m = record {
      moved = m.moved;
      met = λ e. record {
        flow = λ k l q. no_flow (omega arith) k q;
        node = no_end (omega arith);
        calls = λ k l q. let i = in_stretch f t Calls (sorted Q.ready Calls) n k l q in m.met e k i.0 i.1;
      };
    }

    pub node_end : {r b : List ℕ} (w : Bool) → call_kind < node_kind f t n → RowMoved f t x Nodes n s a r b w → NodeMoved f t x n s a r b w
    node_end w h m = record {
      moved = m.moved;
      met = λ e. record { flow = λ k l q. no_flow (omega arith) k q; node = m.met e; calls = no_calls (λ z. omega arith) };
    }

  -- A plain node, a grant or a draw asks by its flow rows alone.
  plain_met : {r b : List ℕ} (n : ℕ) → node_kind f t n < call_kind → Queue f t x r b → ((k : ℕ) → (flow_of f t n).from ≤ k → k < (flow_of f t n).to → Met f t x r Flow k) → NodeMet f t x r n
  plain_met n h q m = record {
    flow = λ k l e. let i = in_stretch f t Flow (sorted q.ready Flow) n k l e in m k i.0 i.1;
    node = no_end q n (omega arith);
    calls = no_calls q n (λ z. omega arith);
  }

  module _ {s a r b : List ℕ} (n : ℕ) (l : n < t.nodes) (h : node_kind f t n < call_kind) (w : Bool)
      (m : StretchMoved f t x Flow (flow_of f t n).from (flow_of f t n).to s a r b w) where
    -- it waits on where it wrote something and a row leads back to it
    pub plain_waits : w ≡ true → Visited f t x n s a r b true
    plain_waits e = record { queue = m.moved.queue; falls = λ y. m.moved.falls e; idle = λ y. absurd (true≢false y) }

    cleared : NodeMet f t x r n → Visited f t x n s a r (set b n 0) w
    cleared met =
        let q = m.moved.queue in
        record {
          queue = node_cleared n l q met;
          falls = m.moved.falls;
          idle = λ e.
              let z = m.moved.idle e in
              (z.0, get_or-set_same b n 0 0 (omega (arith, q.wide, (limit q.ready).nodes)), λ i ne. get_or-set_other b n i 0 0 ne ∙ ap (λ v. get_or v i 0) z.1);
        }

    -- where no row leads back, or nothing was written, it waits no longer
    pub plain_apart : ((j : ℕ) → (flow_of f t n).from ≤ j → j < (flow_of f t n).to → flow_to f t j ≡ n → ⊥) → Visited f t x n s a r (set b n 0) w
    plain_apart g =
        let q = m.moved.queue in
        cleared (plain_met n h q (m.flow refl n l (λ j o u. let z = of_stretch f t Flow (sorted q.ready Flow) n j (o, u) in (z.0, z.1, g j o u))).1)

    pub plain_idle : w ≡ false → Visited f t x n s a r (set b n 0) w
    plain_idle e = cleared (plain_met n h m.moved.queue (λ j o u. subst (λ y. Met f t x y Flow j) (sym (m.moved.idle e).0) (m.met e j o u)))

    -- so it is where no row leads back or nothing was written
    pub plain_done : (back : Bool) → (back ≡ false → (j : ℕ) → (flow_of f t n).from ≤ j → j < (flow_of f t n).to → flow_to f t j ≡ n → ⊥) → (w && back) ≡ false → Visited f t x n s a r (set b n 0) w
    plain_done false g e = plain_apart (g refl)
    plain_done true g e = plain_idle (sym (and-true w) ∙ e)

  -- node n is visited
  module _ {s a r b : List ℕ} (n : ℕ) (l : n < t.nodes) (w : Bool) (m : NodeMoved f t x n s a r b w) where
    pub visit_wrote : w ≡ true → Visited f t x n s a r b true
    visit_wrote e = record { queue = m.moved.queue; falls = λ y. m.moved.falls e; idle = λ y. absurd (true≢false y) }

    pub visit_idle : w ≡ false → Visited f t x n s a r (set b n 0) false
    visit_idle e =
        let z = m.moved.idle e in
        let q = m.moved.queue in
        record {
          queue = node_cleared n l q (subst (λ y. NodeMet f t x y n) (sym z.0) (m.met e));
          falls = λ y. absurd (false≢true y);
          idle = λ y. (z.0, get_or-set_same b n 0 0 (omega (arith, q.wide, (limit q.ready).nodes)), λ i ne. get_or-set_other b n i 0 0 ne ∙ ap (λ v. get_or v i 0) z.1);
        }

  -- steps are left out whose nodes don't wait
  pub passing_on : {s a r b : List ℕ} (backwards : Bool) {k : ℕ} (l : ℕ) (w : Bool) → Passing f t x backwards k s a r b w → Clear b backwards t.nodes k l → Passing f t x backwards l s a r b w
  passing_on {b = b} backwards {k} l w p h =
      record { queue = p.queue; falls = p.falls; idle = λ e. ((p.idle e).0, λ j m. clear_more b backwards t.nodes 0 k l (λ i u v. (p.idle e).1 i v) h j (omega arith) m, (p.idle e).2) }

  -- as far as there are methods
  pub entered_all : {m : ℕ} {s : List ℕ} → t.methods ≤ m → Entered f t x m s → Entered f t x t.methods s
  entered_all l E = record { ready = E.ready; passed = E.passed; good = E.good; start = E.start; entries = λ k h. E.entries k (omega arith) }
