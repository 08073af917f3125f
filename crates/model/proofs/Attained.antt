-- What a sheet says is brought by runs, at each coordinate by a run of its own. A blank sheet is attained, and every step that marks or
-- lowers a block to what a rule names keeps a sheet so.
use mathlib.Core.Path.{◌≡◌, refl, sym, subst}
use mathlib.Core.Logic.{◌⊎◌, inl, inr}
use mathlib.Core.List.{List, [], ◌∷◌}
use Prim.Native.Nat.{ℕ, zero, suc, ◌+◌, ◌-◌, ◌≤◌, ◌<◌, min}
use native.Mathlib.Nat.{le_refl, le_trans, le_of_eq}
use native.Mathlib.Decide.{dec_le}
use native.Mathlib.Omega.{arith}
use Rattle.model.specs.Machine.{Graph, Doing, Frame, frame, Config, At, Out, along, enter, again, back, caught, leaves, handled, passes, Steps, stay, more, Run}
use Rattle.model.specs.Rules.{Below, AtMost, Sheet, Rounds, AskMethod, AskNode, AskExit, rule1, rule2, rule3, rule4, rule5, rule6, rule7, rule8, rule9, rule10}
use Rattle.model.proofs.Setting.{Setting}
use Rattle.model.proofs.Sound.{rounds_of_call, after_zero, after_suc}

module _ {Stock : Type 0} (G : Graph) (D : Doing Stock) where
  open G use {entry, repeats, Call, Return, Calls}

  pub join : {a b c : Config Stock} → Steps G D a b → Steps G D b c → Steps G D a c
  join p stay = p
  join p (more q r) = more (join p q) r

  -- from a, some steps and then one that ENTERS the method m, with the open calls σ, holding s
  pub data Enters (a : Config Stock) : ℕ → List Frame → Stock → Type 0 where
    by_call : {c m : ℕ} {σ : List Frame} {s : Stock} → Steps G D a (At c σ s) → Call c → Calls c m → Enters a m (frame c m (repeats c) ∷ σ) s
    by_return : {n c m k : ℕ} {σ : List Frame} {s : Stock} → Steps G D a (At n (frame c m k ∷ σ) s) → Return n → 1 < k → Enters a m (frame c m (k - 1) ∷ σ) s

  pub arrive : {a : Config Stock} {m : ℕ} {σ : List Frame} {s : Stock} → Enters a m σ s → Steps G D a (At (entry m) σ s)
  arrive (by_call p k l) = more p (enter k l)
  arrive (by_return p r l) = more p (again r l)

  pub enter_later : {a b : Config Stock} {m : ℕ} {σ : List Frame} {s : Stock} → Steps G D a b → Enters b m σ s → Enters a m σ s
  enter_later p (by_call q k l) = by_call (join p q) k l
  enter_later p (by_return q r l) = by_return (join p q) r l

module _ (S : Setting) where
  open S use {W, G, D, step, opening}
  open W use {Stock, Effect, Coord, at, apply, nothing, then, both, lower}
  open S.laws use {apply_mono, apply_nothing, apply_then, apply_both, at_lower}
  open G use {methods, entry, method, repeats, Goes, Call, Return, Throw, Flow, Calls, Catch}
  open S.formed use {entry_inside, flow_inside, catch_inside}
  open D use {act}
  open S.told use {act_step}

  -- a run that has just entered the method m: at its start, or by a call or a return
  pub data Entered : ℕ → List Frame → Stock → Type 0 where
    at_start : Entered 0 [] opening
    inside : {m : ℕ} {σ : List Frame} {s : Stock} → Enters G D (At (entry 0) [] opening) m σ s → Entered m σ s

  pub run_of : {m : ℕ} {σ : List Frame} {s : Stock} → Entered m σ s → Run G D opening (At (entry m) σ s)
  run_of at_start = stay
  run_of (inside e) = arrive G D e

  -- one of the stocks that P tells of is as little as t at the coordinate i
  pub record Hit (P : Stock → Type 0) (i : Coord) (t : Stock) : Type 0 where
    pub brought : Stock
    pub how : P brought
    pub low : at i brought ≤ at i t

  -- it stays so where less is claimed; and of two that are hit, so is the smaller
  pub hit_weaker : {P : Stock → Type 0} {i : Coord} {t u : Stock} → at i t ≤ at i u → Hit P i t → Hit P i u
  hit_weaker w h = record { brought = h.brought; how = h.how; low = le_trans h.low w }

  pub hit_both : {P : Stock → Type 0} {i : Coord} {t u v : Stock} → at i v ≡ min (at i t) (at i u) → Hit P i t → Hit P i u → Hit P i v
  hit_both {i = i} {t = t} {u = u} e h k = elim (dec_le (at i t) (at i u)) [
    | yes l ↦ record { brought = h.brought; how = h.how; low = omega (arith, h.low, e) }
    | no l ↦ record { brought = k.brought; how = k.how; low = omega (arith, k.low, e) }
  ]

  -- A run that enters m brings as little as t: ENTERS, since a flow row may lead back to the entry node with less.
  abbrev pub MethodHit : ℕ → Stock → Type 0
  MethodHit m t = (i : Coord) → Hit (λ s'. (σ : List Frame) × Entered m σ s') i t

  -- From the entry of its method, whatever is open and held, the node n is come to with as little as e leaves.
  abbrev pub NodeHit : ℕ → Effect → Type 0
  NodeHit n e = (i : Coord) (σ : List Frame) (s : Stock) → Hit (λ s'. Steps G D (At (entry (method n)) σ s) (At n σ s')) i (apply e s)

  -- from its entry the method m is left by its exit x: by a return, or by an exception
  abbrev pub Left : ℕ → ℕ → List Frame → Stock → Stock → Type 0
  Left m zero σ s s' = (n : ℕ) × Return n × (method n ≡ m) × Steps G D (At (entry m) σ s) (At n σ s')
  Left m (suc e) σ s s' = Steps G D (At (entry m) σ s) (Out e σ s')

  abbrev pub ExitHit : ℕ → ℕ → Effect → Type 0
  ExitHit m x e = (i : Coord) (σ : List Frame) (s : Stock) → Hit (Left m x σ s) i (apply e s)

  -- Each marked block of the sheet is brought by some run, at each coordinate.
  pub record Attained (T : Sheet W) : Type 0 where
    pub methods_hit : (m : ℕ) → T.Called m → MethodHit m (T.stock m)
    pub nodes_hit : (n : ℕ) → T.Node n → NodeHit n (T.node n)
    pub exits_hit : (m x : ℕ) → T.Exit m x → ExitHit m x (T.exit m x)

  returned_of : {j : ℕ} {X : Type 0} → (suc j ≡ 0) ⊎ X → X
  returned_of (inl e) = absurd (omega arith)
  returned_of (inr x) = x

  module _ (T : Sheet W) (A : Attained T) where
    open T use {Called, stock, Exit, exit, Node, node}
    open A use {methods_hit, nodes_hit, exits_hit}

    -- from the entry of c's method, j rounds of the call c of m, and then m is entered once more, with k repeats left
    abbrev Again : ℕ → ℕ → ℕ → ℕ → Type 0
    Again c m j k = (i : Coord) (σ : List Frame) (s : Stock) → Hit (Enters G D (At (entry (method c)) σ s) m (frame c m k ∷ σ)) i (apply (rounds_of_call S T c m j) s)

    again_with : (c m : ℕ) → Call c → Node c → Calls c m → (j k : ℕ) → j + k ≡ repeats c → 1 ≤ k → (j ≡ 0) ⊎ Exit m 0 → Again c m j k
    again_with c m ca nc l zero k e k≥1 x i σ s =
        let h = nodes_hit c nc i σ s in
        let e' : repeats c ≡ k = omega arith in
        record {
          brought = h.brought;
          how = subst (λ y. Enters G D (At (entry (method c)) σ s) m (frame c m y ∷ σ) h.brought) e' (by_call h.how ca l);
          low = omega (arith, h.low, after_zero S T c m i s);
        }
    again_with c m ca nc l (suc j) k e k≥1 x i σ s =
        let y = returned_of x in
        let h = again_with c m ca nc l j (suc k) (omega arith) (omega arith) (inr y) i σ s in
        let o = exits_hit m 0 y i (frame c m (suc k) ∷ σ) h.brought in
        let e' : suc k - 1 ≡ k = omega arith in
        record {
          brought = o.brought;
          how = subst (λ z. Enters G D (At (entry (method c)) σ s) m (frame c m z ∷ σ) o.brought) e' (by_return (join G D (arrive G D h.how) o.how.3) o.how.1 (omega arith));
          low = omega (arith, o.low, apply_mono (exit m 0) i h.brought (apply (rounds_of_call S T c m j) s) h.low, after_suc S T c m j i s);
        }

    -- the same, for the rules' way to count
    again_after : {c m : ℕ} → Call c → Node c → Calls c m → (j : ℕ) → Rounds W G step opening T c m j → Again c m j (repeats c - j)
    again_after {c} {m} ca nc l j y = again_with c m ca nc l j (repeats c - j) (omega arith) (omega arith) y.1

    -- what a rule names for a method, a run brings
    pub method_asked : {r m : ℕ} {t : Stock} → AskMethod W G step opening T r m t → MethodHit m t
    method_asked rule1 i = record { brought = opening; how = ([], at_start); low = le_refl (at i opening) }
    method_asked (rule8 {c} {m} ca y l j r) i =
        let b = methods_hit (method c) y.1 i in
        let h = again_after ca y.0 l j r i b.how.0 b.brought in
        record {
          brought = h.brought;
          how = (frame c m (repeats c - j) ∷ b.how.0, inside (enter_later G D (run_of b.how.1) h.how));
          low = omega (arith, h.low, apply_mono (rounds_of_call S T c m j) i b.brought (stock (method c)) b.low);
        }

    -- k whole rounds, and on along a flow row of the call
    all_rounds : {c m n' : ℕ} → Call c → Node c → Calls c m → Exit m 0 → Flow c n' → (k : ℕ) → 1 ≤ k → k ≤ repeats c → NodeHit n' (rounds_of_call S T c m k)
    all_rounds ca nc l x f zero k≥1 k≤ i σ s = absurd (omega arith)
    all_rounds {c} {m} {n'} ca nc l x f (suc j) k≥1 k≤ i σ s =
        let h = again_after ca nc l j (k≤, inr x) i σ s in
        let o = exits_hit m 0 x i (frame c m (repeats c - j) ∷ σ) h.brought in
        record {
          brought = o.brought;
          how = rw (← (flow_inside c n' f).2) (more (join G D (arrive G D h.how) o.how.3) (back o.how.1 f));
          low = omega (arith, o.low, apply_mono (exit m 0) i h.brought (apply (rounds_of_call S T c m j) s) h.low, after_suc S T c m j i s);
        }

    -- j rounds, and then one that the exception e leaves
    thrown : {c m e : ℕ} → Call c → Node c → Calls c m → Exit m (suc e) → (j : ℕ) → Rounds W G step opening T c m j → (i : Coord) (σ : List Frame) (s : Stock)
        → Hit (λ s'. Steps G D (At (entry (method c)) σ s) (Out e (frame c m (repeats c - j) ∷ σ) s')) i (apply (then (rounds_of_call S T c m j) (exit m (suc e))) s)
    thrown {c} {m} {e} ca nc l x j y i σ s =
        let h = again_after ca nc l j y i σ s in
        let o = exits_hit m (suc e) x i (frame c m (repeats c - j) ∷ σ) h.brought in
        record {
          brought = o.brought;
          how = join G D (arrive G D h.how) o.how;
          low = omega (arith, o.low, apply_mono (exit m (suc e)) i h.brought (apply (rounds_of_call S T c m j) s) h.low, apply_then (rounds_of_call S T c m j) (exit m (suc e)) i s);
        }

    pub node_asked : {r n : ℕ} {e : Effect} → AskNode W G step opening T r n e → NodeHit n e
    node_asked (rule2 {m} lt) i σ s = record { brought = s; how = rw (entry_inside m lt).1 stay; low = le_of_eq (sym (apply_nothing i s)) }
    node_asked (rule3 {n} {n'} p nn f) i σ s =
        let h = nodes_hit n nn i σ s in
        record {
          brought = act n h.brought;
          how = rw (← (flow_inside n n' f).2) (more h.how (along p f));
          low = omega (arith, act_step n i h.brought, apply_mono (step n) i h.brought (apply (node n) s) h.low, apply_then (node n) (step n) i s);
        }
    node_asked (rule4 {n} {e} {h = d} t nn r) i σ s =
        let h = nodes_hit n nn i σ s in
        record { brought = h.brought; how = rw (← (catch_inside n e d r).2) (more h.how (caught t r)); low = h.low }
    node_asked (rule7 ca nc l x f k k≥1 k≤) i σ s = all_rounds ca nc l x f k k≥1 k≤ i σ s
    node_asked (rule9 {c} {e = e} {h = d} ca nc l x r j y) i σ s =
        let h = thrown ca nc l x j y i σ s in
        record { brought = h.brought; how = rw (← (catch_inside c e d r).2) (more h.how (handled r)); low = h.low }

    pub exit_asked : {r m x : ℕ} {e : Effect} → AskExit W G step opening T r m x e → ExitHit m x e
    exit_asked (rule5 {n} r nn) i σ s =
        let h = nodes_hit n nn i σ s in
        record { brought = h.brought; how = (n, r, refl, h.how); low = h.low }
    exit_asked (rule6 {n} t nn u) i σ s =
        let h = nodes_hit n nn i σ s in
        record { brought = h.brought; how = more h.how (leaves t u); low = h.low }
    exit_asked (rule10 ca nc l x u j y) i σ s =
        let h = thrown ca nc l x j y i σ s in
        record { brought = h.brought; how = more h.how (passes u); low = h.low }

  -- What a block that said `was`, if it was marked, may come to: that, what a rule names for it, the smaller of two such.
  pub data Comes {X : Type 0} (Marked : Type 0) (was : X) (Asked : X → Type 0) (smaller : X → X → X) : X → Type 0 where
    as_was : Marked → Comes Marked was Asked smaller was
    asked : {x : X} → Asked x → Comes Marked was Asked smaller x
    met : {x y : X} → Comes Marked was Asked smaller x → Comes Marked was Asked smaller y → Comes Marked was Asked smaller (smaller x y)

  comes_hit : {X Marked : Type 0} {was : X} {Asked : X → Type 0} {smaller : X → X → X} (H : X → Type 0)
      → (Marked → H was) → ((x : X) → Asked x → H x) → ((x y : X) → H x → H y → H (smaller x y)) → {x : X} → Comes Marked was Asked smaller x → H x
  comes_hit H a b c (as_was y) = a y
  comes_hit H a b c (asked y) = b _ y
  comes_hit H a b c (met y z) = c _ _ (comes_hit H a b c y) (comes_hit H a b c z)

  -- U comes from T so: each of its marked blocks is at least something that the block may come to
  pub record From (T U : Sheet W) : Type 0 where
    pub methods_from : (m : ℕ) → U.Called m → (s : Stock) × Comes (T.Called m) (T.stock m) (λ t. (r : ℕ) × AskMethod W G step opening T r m t) lower s × Below W s (U.stock m)
    pub nodes_from : (n : ℕ) → U.Node n → (e : Effect) × Comes (T.Node n) (T.node n) (λ a. (r : ℕ) × AskNode W G step opening T r n a) both e × AtMost W e (U.node n)
    pub exits_from : (m x : ℕ) → U.Exit m x → (e : Effect) × Comes (T.Exit m x) (T.exit m x) (λ a. (r : ℕ) × AskExit W G step opening T r m x a) both e × AtMost W e (U.exit m x)

  -- To mark or lower blocks to what the rules name keeps a sheet attained.
  pub attained_from : (T U : Sheet W) → Attained T → From T U → Attained U
  attained_from T U A F = record {
    methods_hit = λ m y i.
        let f = F.methods_from m y in
        hit_weaker (f.2 i) (comes_hit (MethodHit m) (A.methods_hit m) (λ t q. method_asked T A q.1) (λ s t h k j. hit_both (at_lower s t j) (h j) (k j)) f.1 i);
    nodes_hit = λ n y i σ s.
        let f = F.nodes_from n y in
        hit_weaker (f.2 s i) (comes_hit (NodeHit n) (A.nodes_hit n) (λ e q. node_asked T A q.1) (λ a b h k j τ t. hit_both (apply_both a b j t) (h j τ t) (k j τ t)) f.1 i σ s);
    exits_hit = λ m x y i σ s.
        let f = F.exits_from m x y in
        hit_weaker (f.2 s i) (comes_hit (ExitHit m x) (A.exits_hit m x) (λ e q. exit_asked T A q.1) (λ a b h k j τ t. hit_both (apply_both a b j t) (h j τ t) (k j τ t)) f.1 i σ s);
  }

  -- and a sheet with no marks is attained
  pub attained_blank : (T : Sheet W) → ((m : ℕ) → T.Called m → ⊥) → ((n : ℕ) → T.Node n → ⊥) → ((m x : ℕ) → T.Exit m x → ⊥) → Attained T
  attained_blank T a b c = record {
    methods_hit = λ m y. absurd (a m y);
    nodes_hit = λ n y. absurd (b n y);
    exits_hit = λ m x y. absurd (c m x y);
  }
