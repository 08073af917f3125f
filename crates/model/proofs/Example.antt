-- A graph worked out by hand, so that the theorems' premises are seen to be met by document 01's own stocks and effects: method 0 is a call
-- (node 0, 2 repeats) of method 1 and a return (node 1); method 1 is a draw of right 1 of type 0 (node 2) and a return (node 3). The opening
-- stock has that right, and a count of 5.
use mathlib.Core.Path.{◌≡◌, refl, sym, ◌∙◌}
use mathlib.Core.Logic.{◌⊎◌, inl, inr}
use mathlib.Core.Bool.{true}
use mathlib.Core.List.{List, [], ◌∷◌}
use Prim.Native.Nat.{ℕ, zero, suc, ◌≤◌, ◌<◌}
use lib.ListN.{replicate}
use native.Mathlib.Nat.{le_refl, le_of_eq}
use native.Mathlib.Omega.{arith}
use Rattle.effect.specs.declared.Stock.{Stock}
use Rattle.effect.specs.declared.Effect.{Effect}
use Rattle.effect.specs.Whole.{nothing_done, draw_of, apply_of, then_of, at_most_of, stock_at_most_of, covers_of}
use Rattle.effect.specs.Coordinate.{Coordinate, count, at}
use Rattle.effect.proofs.Compute.{less, rights_after, norm_drop, then_cap, sum_drop, rank, count_at_most, count_after, left, within, normal_form, idle, drawn, apply_one, then_one, at_most_one, held_at_most, covers_held}
use Rattle.effect.proofs.Coordinate.{stock_at_sound, at_most_at_sound, covers_sound}
use Rattle.model.specs.Machine.{Graph, Frame, frame, At, Steps, stay, more, along, enter, again, back, Arrives, Overdraws}
use Rattle.model.specs.Rules.{Below, AtMost, times, Sheet, AskMethod, AskNode, AskExit, rule1, rule2, rule3, rule4, rule5, rule6, rule7, rule8, rule9, rule10}
use Rattle.model.proofs.Greatest.{Obeys}
use Rattle.model.specs.Stocks.{permits, Does, plain, draw, done, doing, step_of}
use Rattle.model.proofs.Formed.{Formed}
use Rattle.model.proofs.Setting.{Setting, apply_same}
use Rattle.model.proofs.Stocks.{laws, told, Fits}
use Rattle.model.proofs.Attained.{Attained, ExitHit, NodeHit, MethodHit, at_start, inside, by_return}
use Rattle.model.proofs.Exact.{smallest, never_overdraws}

data Flows : ℕ → ℕ → Type 0 where
  f01 : Flows 0 1
  f23 : Flows 2 3

data Called-by : ℕ → ℕ → Type 0 where
  c01 : Called-by 0 1

abbrev home : ℕ → ℕ
home zero = 0
home (suc zero) = 0
home (suc (suc n)) = 1

abbrev door : ℕ → ℕ
door zero = 0
door (suc m) = 2

abbrev G : Graph
G = record {
  methods = 2;
  nodes = 4;
  entry = door;
  method = home;
  repeats = λ n. 2;
  Goes = λ n. n ≡ 2;
  Call = λ n. n ≡ 0;
  Return = λ n. (n ≡ 1) ⊎ (n ≡ 3);
  Throw = λ n e. ⊥;
  Flow = Flows;
  Calls = Called-by;
  Catch = λ c e h. ⊥;
}

formed : Formed G
formed = record {
  first_method = omega arith;
  node_inside = inside_home;
  entry_inside = door_home;
  flow_inside = flow_home;
  flow_leaves = flow_on;
  catch_inside = λ a e b h. absurd h;
  calls_inside = calls_home;
  call_has_row = λ c h. (1, rw h c01);
  some_repeats = λ c h. omega arith;
  eight_exceptions = λ n e h. absurd h;
}
  where
    inside_home : (n : ℕ) → n < 4 → home n < 2
    inside_home zero h = omega arith
    inside_home (suc zero) h = omega arith
    inside_home (suc (suc n)) h = omega arith

    door_home : (m : ℕ) → m < 2 → (door m < 4) × (home (door m) ≡ m)
    door_home zero h = (omega arith, refl)
    door_home (suc zero) h = (omega arith, refl)
    door_home (suc (suc m)) h = absurd (omega arith)

    flow_home : (a b : ℕ) → Flows a b → (a < 4) × (b < 4) × (home a ≡ home b)
    flow_home a b f01 = (omega arith, omega arith, refl)
    flow_home a b f23 = (omega arith, omega arith, refl)

    returns_not : {n : ℕ} → (n ≡ 1 → ⊥) → (n ≡ 3 → ⊥) → (n ≡ 1) ⊎ (n ≡ 3) → ⊥
    returns_not p q (inl e) = p e
    returns_not p q (inr e) = q e

    flow_on : (a b : ℕ) → Flows a b → ((a ≡ 1) ⊎ (a ≡ 3) → ⊥) × ((e : ℕ) → ⊥ → ⊥)
    flow_on a b f01 = (returns_not (λ e. omega arith) (λ e. omega arith), λ e x. x)
    flow_on a b f23 = (returns_not (λ e. omega arith) (λ e. omega arith), λ e x. x)

    calls_home : (c m : ℕ) → Called-by c m → (c ≡ 0) × (m < 2)
    calls_home c m c01 = (refl, omega arith)

abbrev does : ℕ → Does
does zero = plain
does (suc zero) = plain
does (suc (suc zero)) = draw 0 1
does (suc (suc (suc n))) = plain

fits : (n : ℕ) → Fits (does n)
fits zero = tt
fits (suc zero) = tt
fits (suc (suc zero)) = (omega arith, omega arith)
fits (suc (suc (suc n))) = tt

abbrev opening : Stock
opening = record { rights = replicate 6 1; counts = replicate 6 5 }

abbrev S : Setting
S = record {
  W = permits;
  laws = laws;
  G = G;
  formed = formed;
  D = doing does;
  step = λ n. step_of (does n);
  told = told does fits;
  opening = opening;
}

-- the sheet
abbrev once : Effect
once = draw_of 0

abbrev twice : Effect
twice = then_of once once

abbrev stocks : ℕ → Stock
stocks zero = opening
stocks (suc m) = apply_of once opening

abbrev nodes : ℕ → Effect
nodes zero = nothing_done
nodes (suc zero) = twice
nodes (suc (suc zero)) = nothing_done
nodes (suc (suc (suc n))) = once

abbrev exits : ℕ → Effect
exits zero = twice
exits (suc m) = once

abbrev T : Sheet permits
T = record {
  Called = λ m. m < 2;
  stock = stocks;
  Exit = λ m x. (m < 2) × (x ≡ 0);
  exit = λ m x. exits m;
  Node = λ n. n < 4;
  node = nodes;
}

-- each "at most" is a test that computes
test : (a b : Effect) → at_most_of a b ≡ true → AtMost permits a b
test a b h = at_most_at_sound a b h

method_ok : {r m : ℕ} {s : Stock} → AskMethod permits G (λ n. step_of (does n)) opening T r m s → (m < 2) × Below permits (stocks m) s
unfolding times stock_at_most_of apply_of then_of draw_of nothing_done apply_one then_one normal_form idle drawn held_at_most rights_after count_after left less norm_drop then_cap sum_drop within
method_ok rule1 = (omega arith, λ i. le_refl (at i opening))
method_ok (rule8 ca y c01 zero rd) = (omega arith, stock_at_sound _ _ refl)
method_ok (rule8 ca y c01 (suc zero) rd) = (omega arith, stock_at_sound _ _ refl)
method_ok (rule8 ca y c01 (suc (suc j)) rd) = absurd (omega (arith, rd.0))

door_ok : (m : ℕ) → m < 2 → (door m < 4) × AtMost permits (nodes (door m)) nothing_done
unfolding at_most_of nothing_done at_most_one normal_form norm_drop idle within count_at_most rank
door_ok zero h = (omega arith, test _ _ refl)
door_ok (suc m) h = (omega arith, test _ _ refl)

node_ok : {r n : ℕ} {e : Effect} → AskNode permits G (λ n. step_of (does n)) opening T r n e → (n < 4) × AtMost permits (nodes n) e
unfolding times step_of at_most_of then_of draw_of nothing_done at_most_one then_one normal_form idle drawn rights_after less norm_drop then_cap sum_drop within count_at_most rank
node_ok (rule2 {m} lt) = door_ok m lt
node_ok (rule3 p nn f01) = absurd (omega arith)
node_ok (rule3 p nn f23) = (omega arith, test _ _ refl)
node_ok (rule4 t nn r) = absurd t
node_ok (rule7 ca nc c01 x f01 zero a b) = absurd (omega arith)
node_ok (rule7 ca nc c01 x f01 (suc zero) a b) = (omega arith, test _ _ refl)
node_ok (rule7 ca nc c01 x f01 (suc (suc zero)) a b) = (omega arith, test _ _ refl)
node_ok (rule7 ca nc c01 x f01 (suc (suc (suc k))) a b) = absurd (omega arith)
node_ok (rule9 ca nc l x r j y) = absurd r

same : (e : Effect) → AtMost permits e e
same e s i = le_refl (at i (apply_of e s))

return_ok : (n : ℕ) → n < 4 → (n ≡ 1) ⊎ (n ≡ 3) → ((home n < 2) × ◌≡◌ {A = ℕ} 0 0) × AtMost permits (exits (home n)) (nodes n)
return_ok zero h (inl e) = absurd (omega arith)
return_ok zero h (inr e) = absurd (omega arith)
return_ok (suc zero) h r = ((omega arith, refl), same twice)
return_ok (suc (suc zero)) h (inl e) = absurd (omega arith)
return_ok (suc (suc zero)) h (inr e) = absurd (omega arith)
return_ok (suc (suc (suc n))) h r = ((omega arith, refl), same once)

exit_ok : {r m x : ℕ} {e : Effect} → AskExit permits G (λ n. step_of (does n)) opening T r m x e → ((m < 2) × (x ≡ 0)) × AtMost permits (exits m) e
exit_ok (rule5 {n} r nn) = return_ok n nn r
exit_ok (rule6 t nn u) = absurd t
exit_ok (rule10 ca nc l x u j y) = absurd (omega (arith, x.1))

obeys : Obeys permits G (λ n. step_of (does n)) opening T
obeys r = record { methods_obey = method_ok; nodes_obey = node_ok; exits_obey = exit_ok }

-- runs that bring as little as the sheet says
abbrev drawn_from : Stock → Stock
drawn_from s = done (draw 0 1) s

to_three : (σ : List Frame) (s : Stock) → Steps G (doing does) (At 2 σ s) (At 3 σ (drawn_from s))
to_three σ s = more stay (along refl f23)

two_rounds : (σ : List Frame) (s : Stock) → Steps G (doing does) (At 0 σ s) (At 1 σ (drawn_from (drawn_from s)))
two_rounds σ s = more (more (more (more (more stay (enter refl c01)) (along refl f23)) (again {k = 2} (inr refl) (omega arith))) (along refl f23)) (back (inr refl) f01)

nothing_low : (i : Coordinate) (s : Stock) → at i s ≤ at i (apply_of nothing_done s)
nothing_low i s = le_of_eq (sym (laws.apply_nothing i s))

once_is : (i : Coordinate) (s : Stock) → at i (drawn_from s) ≡ at i (apply_of once s)
unfolding step_of
once_is i s = (told does fits).act_step 2 i s

twice_is : (i : Coordinate) (s : Stock) → at i (drawn_from (drawn_from s)) ≡ at i (apply_of twice s)
twice_is i s = once_is i (drawn_from s) ∙ apply_same permits laws once i (drawn_from s) (apply_of once s) (once_is i s) ∙ sym (laws.apply_then once once i s)

node_hit : (n : ℕ) → n < 4 → NodeHit S n (nodes n)
node_hit zero h i σ s = record { brought = s; how = stay; low = nothing_low i s }
node_hit (suc zero) h i σ s = record { brought = drawn_from (drawn_from s); how = two_rounds σ s; low = le_of_eq (twice_is i s) }
node_hit (suc (suc zero)) h i σ s = record { brought = s; how = stay; low = nothing_low i s }
node_hit (suc (suc (suc zero))) h i σ s = record { brought = drawn_from s; how = to_three σ s; low = le_of_eq (once_is i s) }
node_hit (suc (suc (suc (suc n)))) h i σ s = absurd (omega arith)

exit_hit : (m x : ℕ) → (m < 2) × (x ≡ 0) → ExitHit S m x (exits m)
exit_hit zero zero h i σ s = record { brought = drawn_from (drawn_from s); how = (1, inl refl, refl, two_rounds σ s); low = le_of_eq (twice_is i s) }
exit_hit (suc zero) zero h i σ s = record { brought = drawn_from s; how = (3, inr refl, refl, to_three σ s); low = le_of_eq (once_is i s) }
exit_hit (suc (suc m)) zero h i σ s = absurd (omega (arith, h.0))
exit_hit zero (suc x) h i σ s = absurd (omega (arith, h.1))
exit_hit (suc m) (suc x) h i σ s = absurd (omega (arith, h.1))

method_hit : (m : ℕ) → m < 2 → MethodHit S m (stocks m)
method_hit zero h i = record { brought = opening; how = ([], at_start); low = le_refl (at i opening) }
method_hit (suc zero) h i = record {
  brought = drawn_from opening;
  how = (frame 0 1 1 ∷ [], inside (by_return (more (more stay (enter refl c01)) (along refl f23)) (inr refl) (omega arith)));
  low = le_of_eq (once_is i opening);
}
method_hit (suc (suc m)) h i = absurd (omega arith)

attained : Attained S T
attained = record { methods_hit = method_hit; nodes_hit = node_hit; exits_hit = exit_hit }

-- at node 3 the smallest count that a run brings is 3: all bring at least that, and one brings it
three : (lt : 0 < 6)
    → ((s : Stock) → Arrives G (doing does) opening 3 s → 3 ≤ at (count 0 lt) s) × ((s : Stock) × Arrives G (doing does) opening 3 s × (at (count 0 lt) s ≡ 3))
unfolding at apply_of draw_of apply_one idle drawn count_after left less
three lt = smallest S T obeys attained 3 (omega arith, omega arith) (count 0 lt)

two : covers_of (apply_of nothing_done (apply_of once opening)) 0 1 ≡ true
unfolding covers_of apply_of draw_of nothing_done apply_one idle drawn covers_held rights_after count_after left less within
two = refl

-- and no run overdraws
safe : (n : ℕ) → Overdraws G (doing does) opening n → ⊥
safe = never_overdraws S T obeys covered
  where
    covered : (n : ℕ) → (n < 4) × (home n < 2) → (doing does).Covers n (apply_of (nodes n) (stocks (home n)))
    covered zero r = tt
    covered (suc zero) r = tt
    covered (suc (suc zero)) r = covers_sound _ _ _ two
    covered (suc (suc (suc n))) r = tt
