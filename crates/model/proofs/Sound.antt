-- A sheet that obeys the rules is at most what every run brings. Proved for runs that begin at any method r with any stock ρ, so that it
-- speaks of the effects of methods that are never called too.
use mathlib.Core.Path.{◌≡◌, refl, sym, subst, ◌∙◌}
use mathlib.Core.Logic.{◌⊎◌, inl, inr}
use mathlib.Core.List.{List, [], ◌∷◌}
use Prim.Native.Nat.{ℕ, suc, ◌+◌, ◌-◌, ◌≤◌, ◌<◌}
use native.Mathlib.Nat.{le_refl, le_trans}
use native.Mathlib.Omega.{arith}
use Rattle.model.specs.Machine.{Frame, frame, Config, At, Out, Step, along, enter, again, back, caught, leaves, handled, passes, Steps, stay, more, Run}
use Rattle.model.specs.Rules.{Below, AtMost, times, Sheet, Reached, stock_of_node, after, Rounds, rule1, rule2, rule3, rule4, rule5, rule6, rule7, rule8, rule9, rule10}
use Rattle.model.proofs.Greatest.{Obeys}
use Rattle.model.proofs.Setting.{Setting, apply_same}

module _ (S : Setting) (T : Sheet S.W) where
  open S use {W, G, D, step, opening}
  open W use {Stock, Effect, Coord, at, apply, nothing, then}
  open S.laws use {apply_mono, apply_nothing, apply_then}
  open G use {methods, entry, method, repeats, Call, Return, Calls}
  open S.formed use {first_method, entry_inside, flow_inside, catch_inside, calls_inside, some_repeats}
  open D use {act}
  open S.told use {act_step}
  open T use {Called, stock, Exit, exit, Node, node}

  abbrev pub rounds_of_call : ℕ → ℕ → ℕ → Effect
  rounds_of_call = after W G step opening T

  pub after_zero : (c m : ℕ) (i : Coord) (s : Stock) → at i (apply (rounds_of_call c m 0) s) ≡ at i (apply (node c) s)
  unfolding times
  after_zero c m i s = apply_then (node c) nothing i s ∙ apply_nothing i (apply (node c) s)

  pub after_suc : (c m j : ℕ) (i : Coord) (s : Stock) → at i (apply (rounds_of_call c m (suc j)) s) ≡ at i (apply (exit m 0) (apply (rounds_of_call c m j) s))
  unfolding times
  after_suc c m j i s =
      let x = apply (node c) s in
      let e = times W j (exit m 0) in
      apply_then (node c) (then e (exit m 0)) i s ∙ apply_then e (exit m 0) i x ∙ apply_same W S.laws (exit m 0) i (apply e x) (apply (then (node c) e) s) (sym (apply_then (node c) e i s))

  -- what is known of a frame whose call entered m and holds s at m's entry
  pub record Held (Q : ℕ → Stock → Type 0) (c m' k m : ℕ) (s : Stock) : Type 0 where
    pub same : m' ≡ m
    pub is_call : Call c
    pub marked : Node c
    pub calls : Calls c m
    pub some_left : 1 ≤ k
    pub earlier : ℕ
    pub counted : earlier + k ≡ repeats c
    pub returned : (earlier ≡ 0) ⊎ Exit m 0
    pub caller : Stock
    pub caller_good : Q (method c) caller
    pub holds : Below W (apply (rounds_of_call c m earlier) caller) s

  module _ (r : ℕ) (ρ : Stock) where
    -- the open calls σ are such that the method m can have been entered with s
    abbrev pub Good : List Frame → ℕ → Stock → Type 0
    Good [] m s = (m ≡ r) × Below W ρ s
    Good (frame c m' k ∷ σ) m s = Held (λ x t. Good σ x t) c m' k m s

    pub record Here (n : ℕ) (σ : List Frame) (s : Stock) : Type 0 where
      pub marked : Node n
      pub base : Stock
      pub good : Good σ (method n) base
      pub holds : Below W (apply (node n) base) s

    pub record Gone (e : ℕ) (σ : List Frame) (s : Stock) : Type 0 where
      pub left : ℕ
      pub marked : Exit left (suc e)
      pub base : Stock
      pub good : Good σ left base
      pub holds : Below W (apply (exit left (suc e)) base) s

    abbrev pub Inv : Config Stock → Type 0
    Inv (At n σ s) = Here n σ s
    Inv (Out e σ s) = Gone e σ s

    module _ (O : Obeys W G step opening T) where
      -- entering a method
      pub entered : {m : ℕ} {σ : List Frame} {s : Stock} → m < methods → Good σ m s → Here (entry m) σ s
      entered {m} {σ} {s} h g =
          let ask = (O 2).nodes_obey (rule2 h) in
          record { marked = ask.0; base = s; good = rw (entry_inside m h).1 g; holds = λ i. omega (arith, ask.1 s i, apply_nothing i s) }

      pub good_enter : {c m : ℕ} {σ : List Frame} {s : Stock} → Here c σ s → Call c → Calls c m → Good (frame c m (repeats c) ∷ σ) m s
      good_enter {c} {m} h k l = record {
        same = refl;
        is_call = k;
        marked = h.marked;
        calls = l;
        some_left = some_repeats c k;
        earlier = 0;
        counted = omega arith;
        returned = inl refl;
        caller = h.base;
        caller_good = h.good;
        holds = λ i. omega (arith, after_zero c m i h.base, h.holds i);
      }

      -- one more round is over
      pub record Over (c m k : ℕ) (σ : List Frame) (s : Stock) : Type 0 where
        pub base : Stock
        pub was : Held (λ x t. Good σ x t) c m k m base
        pub marked : Exit m 0
        pub holds : Below W (apply (rounds_of_call c m (suc was.earlier)) was.caller) s

      pub over : {n c m k : ℕ} {σ : List Frame} {s : Stock} → Here n (frame c m k ∷ σ) s → Return n → Over c m k σ s
      over {n} {c} {m} {k} {σ} {s} h ret =
          let b = h.base in
          let g = subst (λ x. Held (λ y t. Good σ y t) c m k x b) (sym h.good.same) h.good in
          let ask = subst (λ x. Exit x 0 × AtMost W (exit x 0) (node n)) (sym h.good.same) ((O 5).exits_obey (rule5 ret h.marked)) in
          record {
            base = b;
            was = g;
            marked = ask.0;
            holds = λ i. omega (arith, after_suc c m g.earlier i g.caller, apply_mono (exit m 0) i _ b (g.holds i), ask.1 b i, h.holds i);
          }

      pub good_again : {n c m k : ℕ} {σ : List Frame} {s : Stock} → Here n (frame c m k ∷ σ) s → Return n → 1 < k → Good (frame c m (k - 1) ∷ σ) m s
      good_again {k} h ret l =
          let o = over h ret in
          record {
            same = refl;
            is_call = o.was.is_call;
            marked = o.was.marked;
            calls = o.was.calls;
            some_left = omega arith;
            earlier = suc o.was.earlier;
            counted = omega (arith, o.was.counted);
            returned = inr o.marked;
            caller = o.was.caller;
            caller_good = o.was.caller_good;
            holds = o.holds;
          }

      -- an exception that leaves the method of the top frame
      pub record Thrown (e c m k : ℕ) (σ : List Frame) (s : Stock) : Type 0 where
        pub base : Stock
        pub was : Held (λ x t. Good σ x t) c m k m base
        pub marked : Exit m (suc e)
        pub rounds : Rounds W G step opening T c m was.earlier
        pub holds : Below W (apply (then (rounds_of_call c m was.earlier) (exit m (suc e))) was.caller) s

      pub thrown : {e c m k : ℕ} {σ : List Frame} {s : Stock} → Gone e (frame c m k ∷ σ) s → Thrown e c m k σ s
      thrown {e} {c} {m} {k} {σ} {s} h =
          let b = h.base in
          let back' = sym h.good.same in
          let g = subst (λ x. Held (λ y t. Good σ y t) c m k x b) back' h.good in
          let x = exit m (suc e) in
          let low = subst (λ x. Below W (apply (exit x (suc e)) b) s) back' h.holds in
          let a = rounds_of_call c m g.earlier in
          record {
            base = b;
            was = g;
            marked = subst (λ x. Exit x (suc e)) back' h.marked;
            rounds = (omega (arith, g.counted, g.some_left), g.returned);
            holds = λ i. omega (arith, apply_then a x i g.caller, apply_mono x i (apply a g.caller) b (g.holds i), low i);
          }

      -- each step keeps the invariant, by the rule named
      pub keep : {a b : Config Stock} → Step G D a b → Inv a → Inv b
      keep (along {n} {n'} {s = s} p f) h =  -- rule 3
          let ask = (O 3).nodes_obey (rule3 p h.marked f) in
          record {
            marked = ask.0;
            base = h.base;
            good = rw (← (flow_inside n n' f).2) h.good;
            holds = λ i. omega (arith, ask.1 h.base i, apply_then (node n) (step n) i h.base, apply_mono (step n) i (apply (node n) h.base) s (h.holds i), act_step n i s);
          }
      keep (enter {c} {m} k l) h = entered (calls_inside c m l).1 (good_enter h k l)  -- rules 2 and 8
      keep (again {c = c} {m = m} ret l) h =  -- rules 5 and 2
          let g = good_again h ret l in
          entered (calls_inside c m g.calls).1 g
      keep (back {n' = n'} {c = c} {m = m} ret f) h =  -- rules 5 and 7
          let o = over h ret in
          let g = o.was in
          let ask = (O 7).nodes_obey (rule7 g.is_call g.marked g.calls o.marked f (suc g.earlier) (omega arith) (omega (arith, g.counted, g.some_left))) in
          record {
            marked = ask.0;
            base = g.caller;
            good = rw (← (flow_inside c n' f).2) g.caller_good;
            holds = λ i. le_trans (ask.1 g.caller i) (o.holds i);
          }
      keep (caught {n} {e} {h = d} t r') h =  -- rule 4
          let ask = (O 4).nodes_obey (rule4 t h.marked r') in
          record {
            marked = ask.0;
            base = h.base;
            good = rw (← (catch_inside n e d r').2) h.good;
            holds = λ i. le_trans (ask.1 h.base i) (h.holds i);
          }
      keep (leaves {n} {e} t u) h =  -- rule 6
          let ask = (O 6).exits_obey (rule6 t h.marked u) in
          record {
            left = method n;
            marked = ask.0;
            base = h.base;
            good = h.good;
            holds = λ i. le_trans (ask.1 h.base i) (h.holds i);
          }
      keep (handled {e} {c} {h = d} r') h =  -- rule 9
          let o = thrown h in
          let g = o.was in
          let ask = (O 9).nodes_obey (rule9 g.is_call g.marked g.calls o.marked r' g.earlier o.rounds) in
          record {
            marked = ask.0;
            base = g.caller;
            good = rw (← (catch_inside c e d r').2) g.caller_good;
            holds = λ i. le_trans (ask.1 g.caller i) (o.holds i);
          }
      keep (passes {c = c} u) h =  -- rule 10
          let o = thrown h in
          let g = o.was in
          let ask = (O 10).exits_obey (rule10 g.is_call g.marked g.calls o.marked u g.earlier o.rounds) in
          record {
            left = method c;
            marked = ask.0;
            base = g.caller;
            good = g.caller_good;
            holds = λ i. le_trans (ask.1 g.caller i) (o.holds i);
          }

      pub follow : {a b : Config Stock} → Steps G D a b → Inv a → Inv b
      follow stay h = h
      follow (more p q) h = keep q (follow p h)

      -- every run that begins at r's entry holding ρ
      pub sound_from : r < methods → {b : Config Stock} → Steps G D (At (entry r) [] ρ) b → Inv b
      sound_from h p = follow p (entered h (refl, λ i. le_refl (at i ρ)))

      -- where r is called, with at most ρ, so is every method entered
      pub good_called : Called r → Below W (stock r) ρ → (σ : List Frame) (m : ℕ) (s : Stock) → Good σ m s → Called m × Below W (stock m) s
      good_called y z [] m s g = subst (λ x. Called x × Below W (stock x) s) (sym g.0) (y, λ i. le_trans (z i) (g.1 i))
      good_called y z (frame c m' k ∷ σ) m s g =
          let up = good_called y z σ (method c) g.caller g.caller_good in
          let ask = (O 8).methods_obey (rule8 g.is_call (g.marked, up.0) g.calls g.earlier (omega (arith, g.counted, g.some_left), g.returned)) in
          (ask.0, λ i. omega (arith, ask.1 i, apply_mono (rounds_of_call c m g.earlier) i (stock (method c)) g.caller (up.1 i), g.holds i))

  -- A sheet that obeys the rules: wherever a run arrives, node and method are marked, and the sheet's stock there is at most what is brought.
  pub sound : Obeys W G step opening T → {n : ℕ} {σ : List Frame} {s : Stock} → Run G D opening (At n σ s) → Reached W G T n × Below W (stock_of_node W G T n) s
  sound O {n} {σ} {s} p =
      let h = sound_from 0 opening O first_method p in
      let root = (O 1).methods_obey rule1 in
      let up = good_called 0 opening O root.0 root.1 σ (method n) h.base h.good in
      ((h.marked, up.0), λ i. le_trans (apply_mono (node n) i (stock (method n)) h.base (up.1 i)) (h.holds i))
