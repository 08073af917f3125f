-- A node breaks a profile exactly if a row of one of the profile's looks convicts it, so what is answered is the lowest that does; and there
-- is no second answer.
use Prim.Native.Nat.{ℕ, ◌<◌, ◌≤◌, min}
use mathlib.Core.Path.{◌≡◌, refl, sym, subst, ap, ◌∙◌}
use mathlib.Core.Bool.{Bool, true, false, ◌&&◌, not, true≢false}
use mathlib.Core.List.{List}
use native.Mathlib.Decide.{dec_lt, dec_le}
use native.Mathlib.Omega.{arith}
use lib.Dec.{eqb}
use borrow.Author.Tests.{eqb-true, eq-eqb, not-true}
use Rattle.words.proofs.Tests.{and_l, and_r}
use lib.Bits.{bit_and}
use Rattle.effect.proofs.Compute.{within}
use Rattle.effect.proofs.Bit.{within_bit, bit_within}
use Rattle.answer.specs.declared.Answer.{Answer}
use Rattle.answer.specs.declared.Answer.TheVariants.{Pass}
use Rattle.answer.specs.Number.{SaysAs}
use Rattle.answer.proofs.Settled.{says_only, says}
use Rattle.graph_tables.specs.declared.Tables.{Tables}
use Rattle.graph_tables.specs.Trailer.{tables_of}
use Rattle.graph_tables.specs.Kinds.{grant_kind, draw_kind}
use Rattle.graph_tables.specs.Fields.{node_method, node_kind, node_number, node_count, node_rights, flow_from, flow_to, catch_from, catch_exception, catch_to}
use Rattle.graph_refuse.proofs.Fit.{entry_fit, flow_fit, call_fit, catch_fit}
use Rattle.graph_places.specs.Places.{unfit_at}
use Rattle.graph.specs.Judge.{judge_of}
use Rattle.graph.specs.Graph.{OfKind}
use Rattle.graph.proofs.Passed.{judged}
use Rattle.profile_looks.specs.declared.Look.TheVariants.{Flow, Entry, Catch, Grant, Call}
use Rattle.profile_looks.specs.declared.Profile.{Profile}
use Rattle.profile_looks.specs.declared.Profile.TheVariants.{OneShot, Session}
use Rattle.profile.specs.Profile.{Asks, BreaksOneShot, by_flow, by_entry, by_catch, BreaksSession, by_grant, by_call, Profiled, refused, unfit, fits}
use Rattle.profile_looks.specs.Looks.{is_draw, asks, lowest_of, breaking}
use Rattle.profile.specs.Breaks.{Breaks}
use Rattle.profile_looks.proofs.Looks.{Convicted, under, hit}

-- the smaller of two numbers has what each has below a limit
one_of : (P : ℕ → Type 0) (top a b : ℕ) → (a < top → P a) → (b < top → P b) → min a b < top → P (min a b)
one_of P top a b p q l = elim (dec_le a b) [
  | yes h ↦ let e : min a b ≡ a = omega arith in subst P (sym e) (p (omega arith))
  | no h ↦ let e : min a b ≡ b = omega arith in subst P (sym e) (q (omega arith))
]

module _ (f : List ℕ) where
  abbrev t : Tables
  t = tables_of f

  -- The tests say what they should.
  is_draw_lem : (n : ℕ) → is_draw f t n ≡ true → node_kind f t n ≡ draw_kind
  unfolding is_draw
  is_draw_lem n h = eqb-true _ _ h

  drawn : (n : ℕ) → OfKind f t draw_kind n → is_draw f t n ≡ true
  unfolding is_draw
  drawn n d = eq-eqb _ _ d.1

  asks_says : (g d : ℕ) → asks f t g d ≡ true → Asks f g d
  unfolding asks within
  asks_says g d h =
      let a = eqb (node_kind f t g) grant_kind in
      let b = eqb (node_number f t g) (node_number f t d) in
      let c = eqb (bit_and (node_rights f t d) (node_rights f t g)) (node_rights f t d) in
      let e = eqb (node_count f t g) 1 in
      let abc : (a && b && c) ≡ true = and_l (a && b && c) e h in
      let ab : (a && b) ≡ true = and_l (a && b) c abc in
      record { is_grant = eqb-true _ _ (and_l a b ab); same_type = eqb-true _ _ (and_r a b ab); rights = within_bit _ _ (and_r (a && b) c abc); once = eqb-true _ _ (and_r (a && b && c) e h) }

  said_asks : (g d : ℕ) → Asks f g d → asks f t g d ≡ true
  unfolding asks within
  said_asks g d a = simp (eq-eqb _ _ a.is_grant, eq-eqb _ _ a.same_type, bit_within _ _ a.rights, eq-eqb _ _ a.once)

  -- a node asks for a draw, or does not
  pub asked : (g d : ℕ) → Dec (Asks f g d)
  asked g d = go (asks f t g d) refl
    where
      go : (b : Bool) → asks f t g d ≡ b → Dec (Asks f g d)
      go true e = yes (asks_says g d e)
      go false e = no (λ a. true≢false (sym (said_asks g d a) ∙ e))

  asks_not : (g d : ℕ) → (Asks f g d → ⊥) → asks f t g d ≡ false
  asks_not g d h = go (asks f t g d) refl
    where
      go : (b : Bool) → asks f t g d ≡ b → asks f t g d ≡ false
      go true e = absurd (h (asks_says g d e))
      go false e = e

  -- A node that breaks a profile is convicted by a row, so the lowest convicted is at most it.
  one_shot_under : (n : ℕ) → BreaksOneShot f n → breaking f t OneShot ≤ n
  one_shot_under n (by_flow d g (k, l, p, q) a) =
      let e : (is_draw f t (flow_to f t k) && not (asks f t (flow_from f t k) (flow_to f t k))) ≡ true = simp (p, q, drawn n d, asks_not g n a) in
      omega (arith, under f t Flow n (k, l, e, q))
  one_shot_under n (by_entry d m l q) = omega (arith, under f t Entry n (m, l, rw q (drawn n d), q))
  one_shot_under n (by_catch d a x (k, l, p, o, q)) = omega (arith, under f t Catch n (k, l, rw q (drawn n d), q))

  session_under : (n : ℕ) → BreaksSession f n → breaking f t Session ≤ n
  session_under n (by_grant g a) =
      let e : (eqb (node_kind f t n) grant_kind && not (eqb (node_method f t n) 0 && eqb (node_count f t n) 255)) ≡ true = simp (eq-eqb _ _ g.1, elsewhere (eqb (node_method f t n) 0) refl (eqb (node_count f t n) 255) refl) in
      omega (arith, under f t Grant n (n, g.0, e, refl))
    where
      elsewhere : (b : Bool) → eqb (node_method f t n) 0 ≡ b → (c : Bool) → eqb (node_count f t n) 255 ≡ c → (eqb (node_method f t n) 0 && eqb (node_count f t n) 255) ≡ false
      elsewhere true p true q = absurd (a (eqb-true _ _ p, eqb-true _ _ q))
      elsewhere true p false q = simp (p, q)
      elsewhere false p c q = simp p
  session_under n (by_call (k, l, p, q)) = omega (arith, under f t Call n (k, l, eq-eqb _ _ q, p))

  module _ (pass : judge_of f ≡ Pass) where
    -- A row that convicts a node breaks the profile.
    flow_breaks : (n : ℕ) → Convicted f t Flow n → BreaksOneShot f n
    flow_breaks n (k, l, e, q) =
        let to : flow_to f t k < t.nodes = (flow_fit f t k ((judged f t pass).flows k l)).to in
        subst (BreaksOneShot f) q
        (by_flow (to, is_draw_lem _ (and_l _ _ e)) (flow_from f t k) (k, l, refl, refl) (λ a. true≢false (sym (said_asks _ _ a) ∙ not-true _ (and_r (is_draw f t (flow_to f t k)) _ e))))

    entry_breaks : (n : ℕ) → Convicted f t Entry n → BreaksOneShot f n
    entry_breaks n (m, l, e, q) = subst (BreaksOneShot f) q (by_entry ((entry_fit f t m ((judged f t pass).entries m l)).inside, is_draw_lem _ e) m l refl)

    catch_breaks : (n : ℕ) → Convicted f t Catch n → BreaksOneShot f n
    catch_breaks n (k, l, e, q) =
        let to : catch_to f t k < t.nodes = (catch_fit f t k ((judged f t pass).catches k l)).to in
        subst (BreaksOneShot f) q (by_catch (to, is_draw_lem _ e) (catch_from f t k) (catch_exception f t k) (k, l, refl, refl, refl))

    grant_breaks : (n : ℕ) → Convicted f t Grant n → BreaksSession f n
    grant_breaks n (k, l, e, q) =
        let elsewhere : (eqb (node_method f t k) 0 && eqb (node_count f t k) 255) ≡ false = not-true _ (and_r (eqb (node_kind f t k) grant_kind) _ e) in
        subst (BreaksSession f) q
        (by_grant (l, eqb-true _ _ (and_l _ _ e)) (λ w. true≢false (simp (eq-eqb _ _ w.0, eq-eqb _ _ w.1) at elsewhere)))

    call_breaks : (n : ℕ) → Convicted f t Call n → BreaksSession f n
    call_breaks n (k, l, e, q) = subst (BreaksSession f) q (by_call (k, l, refl, eqb-true _ _ e))

    -- So where some node breaks the profile, the lowest convicted does.
    found : (p : Profile) → breaking f t p < t.nodes → Breaks f p (breaking f t p)
    found OneShot =
        one_of (BreaksOneShot f) t.nodes (lowest_of f t Flow) _
        (λ l. flow_breaks _ (hit f t Flow l))
        (one_of (BreaksOneShot f) t.nodes (lowest_of f t Entry) (lowest_of f t Catch) (λ l. entry_breaks _ (hit f t Entry l)) (λ l. catch_breaks _ (hit f t Catch l)))
    found Session =
        one_of (BreaksSession f) t.nodes (lowest_of f t Grant) (lowest_of f t Call) (λ l. grant_breaks _ (hit f t Grant l)) (λ l. call_breaks _ (hit f t Call l))

    least : (p : Profile) (n : ℕ) → Breaks f p n → breaking f t p ≤ n
    least OneShot = one_shot_under
    least Session = session_under

    one_shot_inside : (n : ℕ) → BreaksOneShot f n → n < t.nodes
    one_shot_inside n (by_flow d g r a) = d.0
    one_shot_inside n (by_entry d m l q) = d.0
    one_shot_inside n (by_catch d a x r) = d.0

    session_inside : (n : ℕ) → BreaksSession f n → n < t.nodes
    session_inside n (by_grant g a) = g.0
    session_inside n (by_call (k, l, p, q)) = rw (← p) (call_fit f t k ((judged f t pass).calls k l)).node

    inside : (p : Profile) (n : ℕ) → Breaks f p n → n < t.nodes
    inside OneShot = one_shot_inside
    inside Session = session_inside

    -- what is answered, from the tables that were read
    module _ (p : Profile) (u : Tables) (n : ℕ) (e : u ≡ t) (q : n ≡ breaking f u p) where
      is_lowest : n ≡ breaking f t p
      is_lowest = q ∙ ap (λ v. breaking f v p) e

      pub unfit_at_lem : n < u.nodes → Profiled f (Breaks f p) (unfit_at f u n)
      unfit_at_lem l =
          let b : breaking f t p < t.nodes = rw (← is_lowest, ← e) l in
          unfit pass n (subst (Breaks f p) (sym is_lowest) (found p b)) (λ m h w. omega (arith, least p m w, is_lowest)) (subst (λ v. SaysAs (unfit_at f u n) (unfit_at f v n)) e (says (unfit_at f u n)))

      pub fits_all : u.nodes ≤ n → Profiled f (Breaks f p) Pass
      fits_all l =
          let b : t.nodes ≤ breaking f t p = rw (← is_lowest, ← e) l in
          fits pass (λ m w. omega (arith, least p m w, inside p m w)) (says Pass)

  -- There is no second answer.
  pub only : {B : ℕ → Type 0} {a b : Answer} → Profiled f B a → Profiled f B b → a ≡ b
  only (refused n v) (refused m u) = says_only (judge_of f) v ∙ sym (says_only (judge_of f) u)
  only (refused n v) (unfit q m z w u) = absurd (n q)
  only (refused n v) (fits q w u) = absurd (n q)
  only (unfit p n x y v) (refused m u) = absurd (m p)
  only (unfit p n x y v) (unfit q m z w u) = says_only (unfit_at f t n) v ∙ ap (unfit_at f t) (same (dec_lt n m) (dec_lt m n)) ∙ sym (says_only (unfit_at f t m) u)
    where
      same : Dec (n < m) → Dec (m < n) → n ≡ m
      same (yes l) k = absurd (w n l x)
      same (no l) (yes k) = absurd (y m k z)
      same (no l) (no k) = omega arith
  only (unfit p n x y v) (fits q w u) = absurd (w n x)
  only (fits p h v) (refused m u) = absurd (m p)
  only (fits p h v) (unfit q m z w u) = absurd (h m z)
  only (fits p h v) (fits q w u) = says_only Pass v ∙ sym (says_only Pass u)
