-- Flags that are set stay set.
use Prim.Native.Nat.{ℕ, ◌+◌, ◌-◌, ◌≤◌, ◌<◌}
use mathlib.Core.Path.{◌≡◌, refl, sym, ap, subst, ◌∙◌}
use mathlib.Core.Logic.{inl, inr, ⊎_elim}
use mathlib.Core.List.{List, ◌++◌}
use native.Mathlib.Decide.{ℕ_discrete, dec_lt}
use native.Mathlib.Omega.{arith}
use borrow.Author.Rules.{rules}
use borrow.Rule.Slice.PartMut.{put_mid}
use Rattle.std.specs.Prelude.{MatchOption}
use Rattle.std.specs.declared.option.Option.{Option}
use Rattle.std.specs.declared.option.Option.TheVariants.{None, Some}
use Rattle.std.proofs.lemmas.List.{places}
use lib.Dec.{eqb}
use borrow.Author.Tests.{eqb-true}
use mathlib.Core.Bool.{Bool, true, false, true≢false, false≢true}
use Rattle.words.specs.Bytes.{byte_at, word_at}
use Rattle.words.specs.Four.{four_at}
use Rattle.words.proofs.Four.{four_zero}
use lib.ListN.{length, get_or, set, take, drop, replicate, length-set, length-replicate}
use lib.Seq.{get_or-set_same, get_or-set_other}
use Rattle.graph_tables.specs.declared.Tables.{Tables}
use Rattle.graph_tables.specs.declared.Table.{Table}
use Rattle.graph_tables.specs.declared.Table.TheVariants.{Calls, Catches}
use Rattle.graph_tables.specs.Rows.{rows_of}
use Rattle.graph_tables.specs.Fields.{node_method, call_node, call_method}
use Rattle.graph.specs.Judgement.{shape_of}
use Rattle.graph_rows.specs.declared.Stretch.{Stretch}
use Rattle.graph_tables.specs.Family.{nearest}
use Rattle.graph_rows.specs.Rows.{Sorted, target_of, catch_key, has_own}
use Rattle.graph_rows.proofs.Stretches.{to_within}
use Rattle.graph.proofs.Whole.{Limits}
use Rattle.sheet_layout.specs.Layout.{sheet_bytes}
use Rattle.rule_ask.specs.Gives.{turned}
use Rattle.rule_ready.specs.Ready.{Ready}
use Rattle.rule_ready.proofs.Inside as inside
use Rattle.engine_flags.specs.Flags.{Waits, Woken, Able, Awake, AllWait, LeavesWait, PassedOn, Clear}

pub woken_none : (a : List ℕ) → Woken a a
woken_none a = record { long = refl; kept = λ i w. w }

pub woken_more : {a b c : List ℕ} → Woken a b → Woken b c → Woken a c
woken_more p q = record { long = q.long ∙ p.long; kept = λ i w. q.kept i (p.kept i w) }

pub set_woken : (a : List ℕ) (n : ℕ) → n < length a → Woken a (set a n 1) × Waits (set a n 1) n
set_woken a n l = (record { long = length-set a n 1; kept = kept }, waits)
  where
    waits : Waits (set a n 1) n
    waits = omega (arith, get_or-set_same a n 1 0 l)

    kept : (i : ℕ) → Waits a i → Waits (set a n 1) i
    kept i w = elim (ℕ_discrete i n) [
      | yes e ↦ subst (λ v. Waits (set a n 1) v) (sym e) waits
      | no e ↦ omega (arith, get_or-set_other a n i 1 0 e)
    ]

-- a part of the area filled with v
module _ (a part : List ℕ) (from count v : ℕ) (within : from + count ≤ length a) (filled : part ≡ replicate (length (take count (drop from a))) v) where
  is_filled : part ≡ replicate count v
  is_filled = filled ∙ ap (λ n. replicate n v) (search (rules, places))

  pub below_filled : (i : ℕ) → i < from → get_or (put_mid from count a part) i 0 ≡ get_or a i 0
  below_filled i l = search (rules, places)

  pub inside_filled : (i : ℕ) → from ≤ i → i < from + count → get_or (put_mid from count a part) i 0 ≡ v
  inside_filled i l h = rw is_filled (search (rules, places))

pub first_wait : (a part : List ℕ) (count : ℕ) → part ≡ replicate (length (take count a)) 1 → count ≤ length a → (i : ℕ) → i < count → Waits (part ++ drop count a) i
first_wait a part count filled l i k = omega (arith, inside_filled a part 0 count 1 (omega (arith, l)) filled i (omega arith) (omega (arith, k)))

-- what holds of a file that passes
module _ {f : List ℕ} {t : Tables} {a : List ℕ} (able : Able f t a) where
  some_ready : Ready f t (shape_of t) (replicate (sheet_bytes (shape_of t)) 0)
  some_ready = record { passed = able.passed; own = able.own; shaped = refl; long = length-replicate (sheet_bytes (shape_of t)) 0 }

  pub limit : Limits t
  limit = inside.limit some_ready

  pub sorted : Sorted f t
  sorted = inside.sorted some_ready

  pub leads_inside : (table : Table) (j : ℕ) → j < rows_of t table → target_of f t table j < 512
  leads_inside table j l = omega (arith, inside.leads_inside some_ready table j l, limit.nodes)

  pub method_inside : (n : ℕ) → n < t.nodes → node_method f t n < 64
  method_inside n l = omega (arith, inside.method_of some_ready n l, limit.methods)

  pub call_inside : (k : ℕ) → k < t.calls → (call_node f t k < 512) × (call_method f t k < 64) × (call_node f t k < t.nodes)
  call_inside k l =
      let n = inside.call_node_inside some_ready k l in
      (omega (arith, n, limit.nodes), omega (arith, inside.call_method_inside some_ready k l, limit.methods), n)

pub still_able : {f : List ℕ} {t : Tables} {a b : List ℕ} → Able f t a → length b ≡ length a → Able f t b
still_able able l = record { passed = able.passed; own = able.own; wide = l ∙ able.wide }

module _ (f : List ℕ) (t : Tables) {a b : List ℕ} (w : Woken a b) where
  pub all_kept : (table : Table) (z : Stretch) → AllWait f t a table z → AllWait f t b table z
  all_kept table z h j i = w.kept _ (h j i)

  pub leaves_kept : (n e : ℕ) → LeavesWait f t a n e → LeavesWait f t b n e
  leaves_kept n e h = record { handlers = λ u j i. w.kept _ (h.handlers u j i); exit = λ u. w.kept _ (h.exit u) }

-- one row more
pub passed_more : (f : List ℕ) (t : Tables) {a b c : List ℕ} {k : ℕ} → Woken a b → PassedOn f t a b k → Woken b c → (Awake f t b Calls k → Waits c (call_node f t k))
    → Woken a c × PassedOn f t a c (k + 1)
passed_more f t {a} {b} {c} {k} w p v h = (woken_more w v, passed)
  where
    awake : (i : ℕ) → Awake f t a Calls i → Awake f t b Calls i
    awake i g = ⊎_elim (λ u. inl (w.kept _ u)) (λ z. inr (⊎_elim (λ u. inl (w.kept _ u)) (λ u. inr (w.kept _ u)) z)) g

    passed : PassedOn f t a c (k + 1)
    passed i l g = elim (dec_lt i k) [
      | yes u ↦ v.kept _ (p i u g)
      | no u ↦ let e : k ≡ i = omega arith in subst (λ y. Waits c (call_node f t y)) e (h (subst (Awake f t b Calls) (sym e) (awake i g)))
    ]

-- one more waits of a row of them
pub wait_more : (at : ℕ → ℕ) {a b : List ℕ} {l k : ℕ} → Woken a b → ((i : ℕ) → l ≤ i → i < k → Waits a (at i)) → Waits b (at k) → (i : ℕ) → l ≤ i → i < k + 1 → Waits b (at i)
wait_more at {a} {b} {l} {k} w h n i p q = elim (dec_lt i k) [
  | yes u ↦ w.kept _ (h i p u)
  | no u ↦ let e : k ≡ i = omega arith in subst (λ v. Waits b (at v)) e n
]

pub leaves_more : (f : List ℕ) (t : Tables) (n : ℕ) {a b : List ℕ} {k : ℕ} → Woken a b → ((i : ℕ) → i < k → LeavesWait f t a n i) → LeavesWait f t b n k
    → (i : ℕ) → i < k + 1 → LeavesWait f t b n i
leaves_more f t n {a} {b} {k} w h g i q = elim (dec_lt i k) [
  | yes u ↦ leaves_kept f t w n i (h i u)
  | no u ↦ let e : k ≡ i = omega arith in subst (LeavesWait f t b n) e g
]

-- the steps that are left out
pub clear_more : (a : List ℕ) (backwards : Bool) (n k j l : ℕ) → Clear a backwards n k j → Clear a backwards n j l → Clear a backwards n k l
clear_more a backwards n k j l h g i p q = elim (dec_lt i j) [
  | yes u ↦ h i p u
  | no u ↦ g i (omega arith) q
]

-- left out in eights from k to start, and searched from there
pub next_found : (a : List ℕ) (backwards : Bool) (n k start : ℕ) (Waiting : ℕ → Type 0) (r : Option ℕ) → (k ≤ start) × (start ≤ n) × Clear a backwards n k start
    → MatchOption r (Clear a backwards n start n) (λ j. (start ≤ j) × (j < n) × Waiting j × Clear a backwards n start j)
    → MatchOption r (Clear a backwards n k n) (λ j. (k ≤ j) × (j < n) × Clear a backwards n k j)
next_found a backwards n k start Waiting None p q = clear_more a backwards n k start n p.2 q
next_found a backwards n k start Waiting (Some j) p q = (omega (arith, p.0, q.0), q.1, clear_more a backwards n k start j p.2 q.3)

-- eight bytes that are 0 as one number
module _ (a : List ℕ) (bytes : (i : ℕ) → get_or a i 0 < 256) where
  pair_zero : (p : ℕ) → word_at a p ≡ 0 → (i : ℕ) → p ≤ i → i < p + 2 → get_or a i 0 ≡ 0
  unfolding word_at byte_at
  pair_zero p h i l k = elim (ℕ_discrete i p) [
    | yes e ↦ rw e (omega (arith, bytes p, bytes (p + 1)))
    | no e ↦ let z : i ≡ p + 1 = omega arith in rw z (omega (arith, bytes p, bytes (p + 1)))
  ]

  eight_zero : (p : ℕ) → four_at a p ≡ 0 → (i : ℕ) → p ≤ i → i < p + 8 → get_or a i 0 ≡ 0
  eight_zero p h i l k =
      let z = four_zero a p h in
      elim (dec_lt i (p + 2)) [
        | yes u ↦ pair_zero p z.first i l u
        | no u ↦ elim (dec_lt i (p + 4)) [
          | yes v ↦ pair_zero (p + 2) z.second i (omega arith) (omega arith)
          | no v ↦ elim (dec_lt i (p + 6)) [
            | yes w ↦ pair_zero (p + 4) z.third i (omega arith) (omega arith)
            | no w ↦ pair_zero (p + 6) z.fourth i (omega arith) (omega arith)
          ]
        ]
      ]

  eight_forwards : (n j : ℕ) → four_at a j ≡ 0 → Clear a false n j (j + 8)
  eight_forwards n j h i l k = eight_zero j h i l k

  eight_backwards : (n j : ℕ) → j + 8 ≤ n → four_at a (n - 1 - j - 7) ≡ 0 → Clear a true n j (j + 8)
  eight_backwards n j m h i l k = eight_zero (n - 1 - j - 7) h (n - 1 - i) (omega arith) (omega arith)

  -- what is read says so
  pub eight_back : (backwards : Bool) (n j i v : ℕ) → backwards ≡ true → i ≡ turned backwards n j → j + 8 ≤ n → v ≡ four_at a (i - 7) → eqb v 0 ≡ true → (j + 8 ≤ n) × Clear a backwards n j (j + 8)
  eight_back true n j i v b e m h z = (m, eight_backwards n j m (subst (λ y. four_at a (y - 7) ≡ 0) e (sym h ∙ eqb-true v 0 z)))
  eight_back false n j i v b e m h z = absurd (false≢true b)

  pub eight_forth : (backwards : Bool) (n j i v : ℕ) → backwards ≡ false → i ≡ turned backwards n j → j + 8 ≤ n → v ≡ four_at a i → eqb v 0 ≡ true → (j + 8 ≤ n) × Clear a backwards n j (j + 8)
  eight_forth true n j i v b e m h z = absurd (true≢false b)
  eight_forth false n j i v b e m h z = (m, eight_forwards n j (subst (λ y. four_at a y ≡ 0) e (sym h ∙ eqb-true v 0 z)))

-- a step back, and eight
pub turned_eight : (backwards : Bool) (n j : ℕ) → backwards ≡ true → j + 8 ≤ n → (7 ≤ turned backwards n j) × (turned backwards n j < n)
turned_eight true n j b m = (omega arith, omega arith)
turned_eight false n j b m = absurd (false≢true b)

pub turned_forth : (backwards : Bool) (n j : ℕ) → backwards ≡ false → turned backwards n j ≡ j
turned_forth true n j b = absurd (true≢false b)
turned_forth false n j b = refl

-- with no catch rows an exception leads to the exits alone
pub no_handlers : (f : List ℕ) (t : Tables) (a : List ℕ) (n e : ℕ) → t.catches ≡ 0 → Waits a (512 + node_method f t n) → LeavesWait f t a n e
no_handlers f t a n e z w = record {
  handlers = λ u j i. absurd (omega (arith, i.1, to_within f t Catches (catch_key n (nearest f t (has_own f t n) e))));
  exit = λ u. w;
}
