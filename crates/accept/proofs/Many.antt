-- The check of many sheets: the row is told sheet by sheet, no second answer and no second row fits, and a sheet whose number is 0 says that
-- no run overdraws.
use Prim.Native.Nat.{ℕ, ◌+◌, ◌-◌, ◌*◌, ◌/◌, ◌%◌, ◌≤◌, ◌<◌}
use mathlib.Core.Path.{◌≡◌, refl, sym, ap, subst, ◌∙◌}
use mathlib.Core.Logic.{◌⊎◌, inl, inr}
use mathlib.Core.List.{List}
use native.Mathlib.Decide.{ℕ_discrete}
use native.Mathlib.Nat.{suc-mul, mul-le-mul_right}
use native.Mathlib.Omega.{arith}
use lib.ListN.{length, get_or, set, take, drop, length-set, length-take, length-drop}
use lib.Seq.{get_or-set_same, get_or-set_other, ext_get_or}
use borrow.Author.Count.{below_none, below_more}
use borrow.Author.Tests.{eq-eqb}
use Rattle.answer.specs.declared.Answer.{Answer}
use Rattle.answer.specs.declared.Answer.TheVariants.{Pass, BadRow}
use Rattle.answer.specs.Number.{number_of, place_of}
use Rattle.answer.proofs.Settled.{says_only}
use Rattle.answer.proofs.Unpack.{zero_pass}
use Rattle.graph_tables.specs.declared.Tables.{Tables}
use Rattle.graph_tables.specs.Trailer.{tables_of}
use Rattle.graph_rows.specs.Rows.{Sorted}
use Rattle.graph.specs.declared.PassedGraph.{PassedGraph}
use Rattle.graph.specs.Judge.{judge_of}
use Rattle.graph.specs.Judgement.{shape_of}
use Rattle.graph.proofs.Passed.{judged}
use Rattle.graph.proofs.Rises.{rises}
use Rattle.graph.proofs.Whole.{own_shape, shape_within}
use Rattle.sheet_layout.specs.declared.Shape.{Shape}
use Rattle.sheet_layout.specs.Layout.{Within, sheet_bytes}
use Rattle.rule_test.specs.Sheet.{shape}
use Rattle.accept.specs.Check.{judged_sheet, check_of}
use Rattle.accept.specs.Meaning as one
use Rattle.accept.specs.Meaning.{Checks}
use Rattle.accept_row.specs.Counts.{Counts}
use Rattle.accept.specs.Many.{sheet_at, Tells, Told, ChecksMany, refused, miscounted, checked, SafeRow}
use Rattle.accept.proofs.Meaning.{checks, safe}

-- the sheet after the first i of k ends where they do, or before
pub sheet_within : (size : ℕ) {i k : ℕ} → i < k → i * size + size ≤ k * size
sheet_within size {i} {k} h = rw (suc-mul i size) at (mul-le-mul_right size h)

-- of a file that passes: the sheet has its shape,
pub own : (p : PassedGraph) → p.shape ≡ shape p.graph.file.now
own p = p.shape_is ∙ ap shape_of p.tables_are

-- the half of check that relies on the judge may be asked,
pub relies : (p : PassedGraph) → Sorted p.graph.file.now p.graph.tables × Within p.shape
relies p =
    let f = p.graph.file.now in
    (subst (Sorted f) (sym p.tables_are) (rises f (tables_of f) (judged f (tables_of f) p.passes)), subst Within (own_shape f p.passes ∙ sym (own p)) (shape_within f))

-- what it answers for a sheet is what check answers,
pub as_checked : (p : PassedGraph) (s : List ℕ) → judged_sheet p.graph.file.now p.graph.tables p.shape s ≡ check_of p.graph.file.now s
unfolding check_of
as_checked p s =
    let f = p.graph.file.now in
    (λ j. judged_sheet f (p.tables_are j) (own p j) s) ∙ simp (eq-eqb (number_of (judge_of f)) 0 (ap number_of p.passes))

-- and for the part of the sheets that starts at i times their size what check answers for sheet i alone:
pub as_alone : (f s : List ℕ) {t : Tables} {x : Shape} {size : ℕ} (i : ℕ) {a : Answer} → judge_of f ≡ Pass → t ≡ tables_of f → x ≡ shape f → size ≡ sheet_bytes x
    → a ≡ judged_sheet f t x (take (i * size + size - i * size) (drop (i * size) s)) → a ≡ check_of f (sheet_at f s i)
unfolding check_of
as_alone f s {size = size} i p e h z q =
    let same : size ≡ sheet_bytes (shape f) = z ∙ ap sheet_bytes h in
    let long : i * size + size - i * size ≡ sheet_bytes (shape f) = omega arith in
    q ∙ (λ j. judged_sheet f (e j) (h j) (take (long j) (drop (i * same j) s))) ∙ simp (eq-eqb (number_of (judge_of f)) 0 (ap number_of p))

-- so for a file that is known to pass
pub passed_alone : (p : PassedGraph) (s : List ℕ) {size : ℕ} (i : ℕ) {a : Answer} → size ≡ sheet_bytes p.shape
    → a ≡ judged_sheet p.graph.file.now p.graph.tables p.shape (take (i * size + size - i * size) (drop (i * size) s)) → a ≡ check_of p.graph.file.now (sheet_at p.graph.file.now s i)
passed_alone p s i = as_alone p.graph.file.now s i p.passes p.tables_are (own p)

module _ (f s : List ℕ) where
  -- a row that tells of none, and of one sheet more
  pub told_none : (w : List ℕ) → Told f s w w 0
  told_none w = record { one_length = refl; each = below_none (Tells f s w) }

  pub told_more : {w₀ w w' : List ℕ} {i : ℕ} {a : Answer} → Told f s w₀ w i → 2 * i + 2 ≤ length w → a ≡ check_of f (sheet_at f s i)
      → w' ≡ set (set w (2 * i) (number_of a)) (2 * i + 1) (place_of a) → Told f s w₀ w' (i + 1)
  told_more {w₀} {w} {w'} {i} {a} told room e h = record {
    one_length = ap length h ∙ simp length-set told.one_length;
    each = below_more (Tells f s w') i (λ j l. record { number_is = kept (2 * j) (omega arith) ∙ (told.each j l).number_is; place_is = kept (2 * j + 1) (omega arith) ∙ (told.each j l).place_is }) here;
  }
    where
      kept : (j : ℕ) → j < 2 * i → get_or w' j 0 ≡ get_or w j 0
      kept j l =
          ap (λ (q : List ℕ). get_or q j 0) h
          ∙ get_or-set_other (set w (2 * i) (number_of a)) (2 * i + 1) j (place_of a) 0 (λ q. omega arith)
          ∙ get_or-set_other w (2 * i) j (number_of a) 0 (λ q. omega arith)

      here : Tells f s w' i
      here =
          let v : List ℕ = set w (2 * i) (number_of a) in
          record {
            number_is =
                ap (λ (q : List ℕ). get_or q (2 * i) 0) h
                ∙ get_or-set_other v (2 * i + 1) (2 * i) (place_of a) 0 (λ q. omega arith)
                ∙ get_or-set_same w (2 * i) (number_of a) 0 (omega arith)
                ∙ ap number_of e;
            place_is = ap (λ (q : List ℕ). get_or q (2 * i + 1) 0) h ∙ get_or-set_same v (2 * i + 1) (place_of a) 0 (simp length-set (omega arith)) ∙ ap place_of e;
          }

  -- "no second answer or content of the row fits": the lengths settle how many sheets there are,
  one_count : {size bytes numbers k j : ℕ} → Counts size bytes numbers k → Counts size bytes numbers j → k ≡ j
  one_count a b = omega (arith, a.two, b.two)

  -- the sheets settle the row,
  one_row : {w w' w'' : List ℕ} {k : ℕ} → length w ≡ 2 * k → Told f s w w' k → Told f s w w'' k → w' ≡ w''
  one_row {w} {w'} {w''} {k} long a b = ext_get_or 0 w' w'' (a.one_length ∙ sym b.one_length) (λ j l. go j (omega (arith, a.one_length)) (ℕ_discrete (j % 2) 0))
    where
      go : (j : ℕ) → j < 2 * k → Dec (j % 2 ≡ 0) → get_or w' j 0 ≡ get_or w'' j 0
      go j l (yes e) =
          let i : ℕ = j / 2 in
          let q : 2 * i ≡ j = omega arith in
          rw q at ((a.each i (omega arith)).number_is ∙ sym (b.each i (omega arith)).number_is)
      go j l (no e) =
          let i : ℕ = j / 2 in
          let q : 2 * i + 1 ≡ j = omega arith in
          rw q at ((a.each i (omega arith)).place_is ∙ sym (b.each i (omega arith)).place_is)

  -- and so there is one answer and one row.
  pub only_many : {w w' w'' : List ℕ} {a b : Answer} → ChecksMany f s w w' a → ChecksMany f s w w'' b → (a ≡ b) × (w' ≡ w'')
  only_many (refused n e v) (refused m h u) = (says_only (judge_of f) v ∙ sym (says_only (judge_of f) u), e ∙ sym h)
  only_many (refused n e v) (miscounted p m h u) = absurd (n p)
  only_many (refused n e v) (checked p k c t u) = absurd (n p)
  only_many (miscounted p n e v) (refused m h u) = absurd (m p)
  only_many (miscounted p n e v) (miscounted q m h u) = (says_only BadRow v ∙ sym (says_only BadRow u), e ∙ sym h)
  only_many (miscounted p n e v) (checked q k c t u) = absurd (n k c)
  only_many (checked p k c t v) (refused m h u) = absurd (m p)
  only_many (checked p k c t v) (miscounted q m h u) = absurd (m k c)
  only_many {w} {w'} {w''} (checked p k c t v) (checked q j d r u) =
      (says_only Pass v ∙ sym (says_only Pass u), one_row c.two t (subst (Told f s w w'') (one_count d c) r))

  -- A sheet whose number in the row is 0 says that no run of that graph overdraws.
  pub safe_row : {w w' : List ℕ} {a : Answer} → ChecksMany f s w w' a → SafeRow f w' a
  safe_row (refused n e v) z i l q = absurd (n (zero_pass (judge_of f) (sym v.number_is ∙ z)))
  safe_row (miscounted p n e v) z i l q = absurd (omega (arith, v.number_is))
  safe_row (checked p k c t v) z i l q = safe f (sheet_at f s i) (sym (t.each i (omega (arith, c.two, t.one_length))).number_is ∙ q)

  -- A sheet of those that are counted is whole, so what check answers for it is 0, 11, 12 or 13.
  sheet_long : {numbers k : ℕ} → Counts (sheet_bytes (shape f)) (length s) numbers k → (i : ℕ) → i < k → length (sheet_at f s i) ≡ sheet_bytes (shape f)
  sheet_long c i l =
      let within = sheet_within (sheet_bytes (shape f)) l in
      simp (length-take, length-drop) (omega (arith, c.whole))

  few_numbers : {numbers k : ℕ} → judge_of f ≡ Pass → Counts (sheet_bytes (shape f)) (length s) numbers k → (i : ℕ) → i < k
      → (number_of (check_of f (sheet_at f s i)) ≡ 0) ⊎ ((11 ≤ number_of (check_of f (sheet_at f s i))) × (number_of (check_of f (sheet_at f s i)) ≤ 13))
  few_numbers p c i l = go (checks f (sheet_at f s i))
    where
      go : {a : Answer} → Checks f (sheet_at f s i) a → (number_of a ≡ 0) ⊎ ((11 ≤ number_of a) × (number_of a ≤ 13))
      go (one.refused n v) = absurd (n p)
      go (one.wrong_length q n v) = absurd (n (sheet_long c i l))
      go (one.ill_formed q e b h j k v) = inr (omega (arith, v.number_is), omega (arith, v.number_is))
      go (one.broken w r k h n low v) = inr (omega (arith, v.number_is), omega (arith, v.number_is))
      go (one.overdrawn w h n y u k v) = inr (omega (arith, v.number_is), omega (arith, v.number_is))
      go (one.accepted w h k v) = inl v.number_is

  -- So it is with each sheet's number in the row.
  pub few_in_row : {w w' : List ℕ} {a : Answer} → ChecksMany f s w w' a → number_of a ≡ 0 → (i : ℕ) → 2 * i < length w'
      → (get_or w' (2 * i) 0 ≡ 0) ⊎ ((11 ≤ get_or w' (2 * i) 0) × (get_or w' (2 * i) 0 ≤ 13))
  few_in_row (refused n e v) z i l = absurd (n (zero_pass (judge_of f) (sym v.number_is ∙ z)))
  few_in_row (miscounted p n e v) z i l = absurd (omega (arith, v.number_is))
  few_in_row (checked p k c t v) z i l =
      let below : i < k = omega (arith, c.two, t.one_length) in
      subst (λ (n : ℕ). (n ≡ 0) ⊎ ((11 ≤ n) × (n ≤ 13))) (sym (t.each i below).number_is) (few_numbers p c i below)
