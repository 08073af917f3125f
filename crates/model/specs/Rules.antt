-- The sheet and its rules: document 01's section of that name.
use Rattle.std.specs.Prelude.{◌≡◌, ◌⊎◌, ℕ, zero, suc, ◌≤◌, ◌<◌}
use Rattle.model.specs.Machine.{Graph, Uncaught}

-- Stocks and effects. A stock is seen through its coordinates: each type's count, each type's each right.
pub record Effects : Type 1 where
  pub Stock : Type 0
  pub Coord : Type 0
  pub at : Coord → Stock → ℕ
  pub Effect : Type 0
  pub apply : Effect → Stock → Stock
  pub nothing : Effect
  pub then : Effect → Effect → Effect
  pub both : Effect → Effect → Effect
  pub lower : Stock → Stock → Stock

-- one stock is at most another, at each coordinate
abbrev pub Below : (W : Effects) → W.Stock → W.Stock → Type 0
Below W s t = (i : W.Coord) → W.at i s ≤ W.at i t

-- One effect is at most another if its result is at most the other's for every stock.
abbrev pub AtMost : (W : Effects) → W.Effect → W.Effect → Type 0
AtMost W a b = (s : W.Stock) → Below W (W.apply a s) (W.apply b s)

-- an effect taken k times
unfoldable pub times : (W : Effects) → ℕ → W.Effect → W.Effect
times W zero e = W.nothing
times W (suc k) e = W.then (times W k e) e

-- For each method: called mark, its stock, then its exits (0 return, 1 + e for exception e), each a mark and an effect. Then for each
-- node a mark and the effect since its method's entry.
pub record Sheet (W : Effects) : Type 1 where
  pub Called : ℕ → Type 0
  pub stock : ℕ → W.Stock
  pub Exit : ℕ → ℕ → Type 0
  pub exit : ℕ → ℕ → W.Effect
  pub Node : ℕ → Type 0
  pub node : ℕ → W.Effect

module _ (W : Effects) (G : Graph) (T : Sheet W) where
  -- A node is reached if its mark and its method's called mark are 1;
  abbrev pub Reached : ℕ → Type 0
  Reached n = T.Node n × T.Called (G.method n)

  -- its stock is its effect applied to the method's stock.
  abbrev pub stock_of_node : ℕ → W.Stock
  stock_of_node n = W.apply (T.node n) (T.stock (G.method n))

-- The rules. `step n` is the effect of the own step of a plain, grant or draw node.
module _ (W : Effects) (G : Graph) (step : ℕ → W.Effect) (opening : W.Stock) (T : Sheet W) where
  open W use {Stock, Coord, at, Effect, apply, nothing, then}
  open G use {methods, entry, method, repeats, Goes, Call, Return, Throw, Flow, Calls, Catch}
  open T use {Called, stock, Exit, exit, Node, node}

  -- the call's effect, then exit 0 of the method taken k times
  abbrev pub after : ℕ → ℕ → ℕ → Effect
  after c m k = then (node c) (times W k (exit m 0))

  -- exit 0 can have been taken j times before a round: 0, or 0 to repeats - 1 if marked
  abbrev pub Rounds : ℕ → ℕ → ℕ → Type 0
  Rounds c m j = (j < repeats c) × ((j ≡ 0) ⊎ Exit m 0)

  -- What a rule, by its number, names for a method's block,
  pub data AskMethod : ℕ → ℕ → Stock → Type 0 where
    -- 1. Method 0: the opening stock.
    rule1 : AskMethod 1 0 opening
    -- 8. Reached call, each method called: that method's stock is at most the call's, and if exit 0 is marked also after 1 to repeats - 1 times.
    rule8 : {c m : ℕ} → Call c → Reached W G T c → Calls c m → (j : ℕ) → Rounds c m j → AskMethod 8 m (apply (after c m j) (stock (method c)))

  -- for a node's block (a catch row is one that applies to the exception, as in the machine),
  pub data AskNode : ℕ → ℕ → Effect → Type 0 where
    -- 2. Every entry node: nothing done.
    rule2 : {m : ℕ} → m < methods → AskNode 2 (entry m) nothing
    -- 3. Flow row from a marked plain, grant or draw: its effect, then the step.
    rule3 : {n n' : ℕ} → Goes n → Node n → Flow n n' → AskNode 3 n' (then (node n) (step n))
    -- 4. Catch row from a marked throw: its effect.
    rule4 : {n e h : ℕ} → Throw n e → Node n → Catch n e h → AskNode 4 h (node n)
    -- 7. Marked call, each method called with exit 0, each flow row: the call's effect, then exit 0 taken k times, for every k from 1 to repeats.
    rule7 : {c m n' : ℕ} → Call c → Node c → Calls c m → Exit m 0 → Flow c n' → (k : ℕ) → 1 ≤ k → k ≤ repeats c → AskNode 7 n' (after c m k)
    -- 9. Marked call, each method called with exit 1 + e, catch row for e: the call's effect, exit 0 taken j times, then that exit.
    rule9 : {c m e h : ℕ} → Call c → Node c → Calls c m → Exit m (suc e) → Catch c e h → (j : ℕ) → Rounds c m j → AskNode 9 h (then (after c m j) (exit m (suc e)))

  -- and for an exit's block.
  pub data AskExit : ℕ → ℕ → ℕ → Effect → Type 0 where
    -- 5. Marked return: exit 0 of its method.
    rule5 : {n : ℕ} → Return n → Node n → AskExit 5 (method n) 0 (node n)
    -- 6. Marked throw with no catch row: exit 1 + e.
    rule6 : {n e : ℕ} → Throw n e → Node n → Uncaught G n e → AskExit 6 (method n) (suc e) (node n)
    -- 10. The same as 9 with no catch row for e: exit 1 + e of the caller.
    rule10 : {c m e : ℕ} → Call c → Node c → Calls c m → Exit m (suc e) → Uncaught G c e → (j : ℕ) → Rounds c m j → AskExit 10 (method c) (suc e) (then (after c m j) (exit m (suc e)))

  -- Each rule says of the block it leads to "mark 1 and at most" what is named.
  pub record Rule (r : ℕ) : Type 0 where
    pub methods_obey : {m : ℕ} {s : Stock} → AskMethod r m s → Called m × Below W (stock m) s
    pub nodes_obey : {n : ℕ} {e : Effect} → AskNode r n e → Node n × AtMost W (node n) e
    pub exits_obey : {m x : ℕ} {e : Effect} → AskExit r m x e → Exit m x × AtMost W (exit m x) e

  -- The same at the coordinates that P picks, where the block has its mark: one without it is not compared.
  pub record RuleAt (P : Coord → Type 0) (r : ℕ) : Type 0 where
    pub methods_at : {m : ℕ} {s : Stock} → AskMethod r m s → Called m → (i : Coord) → P i → at i (stock m) ≤ at i s
    pub nodes_at : {n : ℕ} {e : Effect} → AskNode r n e → Node n → (s : Stock) (i : Coord) → P i → at i (apply (node n) s) ≤ at i (apply e s)
    pub exits_at : {m x : ℕ} {e : Effect} → AskExit r m x e → Exit m x → (s : Stock) (i : Coord) → P i → at i (apply (exit m x) s) ≤ at i (apply e s)

-- U marks each block that T marks, and says at most the same there. "Greatest means fewest marks, and under equal marks the greatest effects
-- and stocks": every sheet that obeys is under the greatest.
pub record Under (W : Effects) (G : Graph) (U T : Sheet W) : Type 0 where
  pub methods_under : (m : ℕ) → T.Called m → U.Called m × Below W (U.stock m) (T.stock m)
  pub nodes_under : (n : ℕ) → n < G.nodes → T.Node n → U.Node n × AtMost W (U.node n) (T.node n)
  pub exits_under : (m x : ℕ) → m < G.methods → T.Exit m x → U.Exit m x × AtMost W (U.exit m x) (T.exit m x)
