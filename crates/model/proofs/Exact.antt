-- A sheet that obeys the rules and is attained says of each node exactly whether a run arrives there and the smallest that one brings;
-- it is the greatest of all sheets that obey the rules, and the only one of its kind.
use mathlib.Core.Path.{◌≡◌, subst}
use mathlib.Core.Logic.{◌↔◌}
use mathlib.Core.List.{List, []}
use Prim.Native.Nat.{ℕ, zero, suc, ◌≤◌, ◌<◌}
use native.Mathlib.Nat.{le_trans, le_antisymm}
use native.Mathlib.Omega.{arith}
use Rattle.model.specs.Machine.{Frame, At, Arrives, Overdraws}
use Rattle.model.specs.Rules.{Below, AtMost, Sheet, Reached, stock_of_node, rule1, rule5, Under}
use Rattle.model.proofs.Greatest.{Obeys, Greatest}
use Rattle.model.proofs.Setting.{Setting}
use Rattle.model.proofs.Sound.{Good, sound, sound_from, good_enter, good_again, good_called}
use Rattle.model.proofs.Attained.{Attained, Enters, by_call, by_return, Entered, at_start, inside, run_of, join}

module _ (S : Setting) where
  open S use {W, G, D, step, opening}
  open W use {Stock, Effect, Coord, at, apply}
  open S.laws use {first, apply_mono}
  open G use {methods, nodes, entry, method}
  open D use {Covers}
  open S.formed use {node_inside, first_method}
  open S.told use {Needs, enough, short}

  module _ (T : Sheet W) (O : Obeys W G step opening T) where
    -- No run overdraws at a node whose draw a sheet that obeys covers, where it calls the node reached at all.
    pub never_overdraws_at : (n : ℕ) → (Reached W G T n → Covers n (stock_of_node W G T n)) → Overdraws G D opening n → ⊥
    never_overdraws_at n C (s, p, u) =
        let b = sound S T O p.1 in
        let i = short n s u in
        omega (arith, enough n (stock_of_node W G T n) (C b.0) i.0 i.1, b.1 i.0, i.2)

    -- No graph with a sheet that obeys and covers, made by anyone, has a run that overdraws.
    pub never_overdraws : ((n : ℕ) → Reached W G T n → Covers n (stock_of_node W G T n)) → (n : ℕ) → Overdraws G D opening n → ⊥
    never_overdraws C n = never_overdraws_at n (C n)

    module _ (A : Attained S T) where
      -- a run that brings as little as the sheet says
      brought : (n : ℕ) → Reached W G T n → (i : Coord) → (s : Stock) × Arrives G D opening n s × (at i s ≤ at i (stock_of_node W G T n))
      brought n y i =
          let b = A.methods_hit (method n) y.1 i in
          let h = A.nodes_hit n y.0 i b.how.0 b.brought in
          (h.brought, (b.how.0, join G D (run_of S b.how.1) h.how), le_trans h.low (apply_mono (T.node n) i b.brought (T.stock (method n)) b.low))

      -- A node is called reached exactly if some run gets there;
      pub reached : (n : ℕ) → Reached W G T n ↔ ((s : Stock) × Arrives G D opening n s)
      reached n = (λ y. let b = brought n y first in (b.0, b.1), λ p. (sound S T O p.1.1).0)

      -- each count is the smallest that any run brings, and each right is 0 or 1 likewise: every run brings at least that, and one brings it;
      pub smallest : (n : ℕ) → Reached W G T n → (i : Coord)
          → ((s : Stock) → Arrives G D opening n s → at i (stock_of_node W G T n) ≤ at i s) × ((s : Stock) × Arrives G D opening n s × (at i s ≡ at i (stock_of_node W G T n)))
      smallest n y i =
          let low : (s : Stock) → Arrives G D opening n s → at i (stock_of_node W G T n) ≤ at i s = λ s p. (sound S T O p.1).1 i in
          let b = brought n y i in
          (low, (b.0, b.1, le_antisymm b.2 (low b.0 b.1)))

      -- a right is missing exactly if some run arrives without it, and so for less than k of a count;
      pub missing : (n : ℕ) (i : Coord) (k : ℕ) → (Reached W G T n × (at i (stock_of_node W G T n) < k)) ↔ ((s : Stock) × Arrives G D opening n s × (at i s < k))
      missing n i k = (
        λ y. let b = brought n y.0 i in (b.0, b.1, omega (arith, b.2, y.1)),
        λ p. let l = sound S T O p.1.1 in (l.0, omega (arith, l.1 i, p.2)),
      )

      -- a run overdraws at a node exactly if the sheet calls it reached and its stock there does not cover the draw.
      pub overdrawn : (n : ℕ) → (Reached W G T n × (Covers n (stock_of_node W G T n) → ⊥)) ↔ Overdraws G D opening n
      overdrawn n = (
        λ y.
            let i = short n (stock_of_node W G T n) y.1 in
            let b = (missing n i.0 1).0 (y.0, i.2) in
            (b.0, b.1, λ c. omega (arith, enough n b.0 c i.0 i.1, b.2)),
        λ p.
            let i = short n p.0 p.2 in
            let l = (missing n i.0 1).1 (p.0, p.1, i.2) in
            (l.0, λ c. omega (arith, enough n (stock_of_node W G T n) c i.0 i.1, l.1)),
      )

  module _ (T U : Sheet W) (A : Attained S T) (O : Obeys W G step opening U) where
    -- what U says of a method's stock is at most what any run enters it with
    entered_under : {m : ℕ} {σ : List Frame} {s : Stock} → Entered S m σ s → U.Called m × Below W (U.stock m) s
    entered_under at_start = (O 1).methods_obey rule1
    entered_under {m} {σ} {s} (inside e) =
        let root = (O 1).methods_obey rule1 in
        good_called S U 0 opening O root.0 root.1 σ m s (good_of e)
      where
        good_of : {m : ℕ} {σ : List Frame} {s : Stock} → Enters G D (At (entry 0) [] opening) m σ s → Good S U 0 opening σ m s
        good_of (by_call p k l) = good_enter S U 0 opening O (sound_from S U 0 opening O first_method p) k l
        good_of (by_return p r l) = good_again S U 0 opening O (sound_from S U 0 opening O first_method p) r l

    -- the same for the effects, by runs that begin at a method's entry with nothing open
    node_under : (n : ℕ) → n < nodes → T.Node n → (i : Coord) (s : Stock) → U.Node n × (at i (apply (U.node n) s) ≤ at i (apply (T.node n) s))
    node_under n lt y i s =
        let h = A.nodes_hit n y i [] s in
        let u = sound_from S U (method n) s O (node_inside n lt) h.how in
        (u.marked, omega (arith, h.low, u.holds i, apply_mono (U.node n) i s u.base (u.good.1 i)))

    exit_under : (m x : ℕ) → m < methods → T.Exit m x → (i : Coord) (s : Stock) → U.Exit m x × (at i (apply (U.exit m x) s) ≤ at i (apply (T.exit m x) s))
    exit_under m zero lt y i s =
        let h = A.exits_hit m 0 y i [] s in
        let n = h.how.0 in
        let u = sound_from S U m s O lt h.how.3 in
        let ask = subst (λ x. U.Exit x 0 × AtMost W (U.exit x 0) (U.node n)) h.how.2 ((O 5).exits_obey (rule5 h.how.1 u.marked)) in
        (ask.0, omega (arith, h.low, ask.1 s i, u.holds i, apply_mono (U.node n) i s u.base (u.good.1 i)))
    exit_under m (suc e) lt y i s =
        let h = A.exits_hit m (suc e) y i [] s in
        let u = sound_from S U m s O lt h.how in
        let same = u.good.0 in
        let low = subst (λ x. Below W (apply (U.exit x (suc e)) u.base) h.brought) same u.holds in
        (subst (λ x. U.Exit x (suc e)) same u.marked, omega (arith, h.low, low i, apply_mono (U.exit m (suc e)) i s u.base (u.good.1 i)))

    under : Under W G U T
    under = record {
      methods_under = λ m y. ((entered_under (A.methods_hit m y first).how.1).0, λ i. let h = A.methods_hit m y i in le_trans ((entered_under h.how.1).1 i) h.low);
      nodes_under = λ n lt y. ((node_under n lt y first (T.stock 0)).0, λ s i. (node_under n lt y i s).1);
      exits_under = λ m x lt y. ((exit_under m x lt y first (T.stock 0)).0, λ s i. (exit_under m x lt y i s).1);
    }

  -- An attained sheet that obeys the rules is the greatest that does.
  pub greatest : (T : Sheet W) → Obeys W G step opening T → Attained S T → Greatest W G step opening T
  greatest T O A = record { obeys = O; above_all = λ U P. under T U A P }

  -- the same marks, and at each mark the same stocks and effects
  pub record Same (T U : Sheet W) : Type 0 where
    pub methods_same : (m : ℕ) → T.Called m ↔ U.Called m
    pub nodes_same : (n : ℕ) → n < nodes → T.Node n ↔ U.Node n
    pub exits_same : (m x : ℕ) → m < methods → T.Exit m x ↔ U.Exit m x
    pub stocks_same : (m : ℕ) → T.Called m → (i : Coord) → at i (T.stock m) ≡ at i (U.stock m)
    pub node_same : (n : ℕ) → n < nodes → T.Node n → (s : Stock) (i : Coord) → at i (apply (T.node n) s) ≡ at i (apply (U.node n) s)
    pub exit_same : (m x : ℕ) → m < methods → T.Exit m x → (s : Stock) (i : Coord) → at i (apply (T.exit m x) s) ≡ at i (apply (U.exit m x) s)

  -- There is only one greatest sheet.
  pub only_one : (T U : Sheet W) → Greatest W G step opening T → Greatest W G step opening U → Same T U
  only_one T U A B =
      let low = A.above_all U B.obeys in
      let high = B.above_all T A.obeys in
      record {
        methods_same = λ m. (λ y. (low.methods_under m y).0, λ y. (high.methods_under m y).0);
        nodes_same = λ n lt. (λ y. (low.nodes_under n lt y).0, λ y. (high.nodes_under n lt y).0);
        exits_same = λ m x lt. (λ y. (low.exits_under m x lt y).0, λ y. (high.exits_under m x lt y).0);
        stocks_same = λ m y i. let u = low.methods_under m y in le_antisymm ((high.methods_under m u.0).1 i) (u.1 i);
        node_same = λ n lt y s i. let u = low.nodes_under n lt y in le_antisymm ((high.nodes_under n lt u.0).1 s i) (u.1 s i);
        exit_same = λ m x lt y s i. let u = low.exits_under m x lt y in le_antisymm ((high.exits_under m x lt u.0).1 s i) (u.1 s i);
      }
