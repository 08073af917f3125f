-- Two graphs that say the same in range: of what stands past a table's end no rule asks, so the rules are the same for every sheet.
use mathlib.Core.Path.{◌≡◌, subst}
use mathlib.Core.Logic.{◌↔◌}
use Prim.Native.Nat.{ℕ, ◌≤◌, ◌<◌}
use native.Mathlib.Omega.{arith}
use Rattle.model.specs.Machine.{Graph, Uncaught}
use Rattle.model.specs.Rules.{Effects, Sheet, Rounds, AskMethod, AskNode, AskExit, rule1, rule2, rule3, rule4, rule5, rule6, rule7, rule8, rule9, rule10, Rule, RuleAt, Under}

-- what G says in range, H says too
pub record Alike (G H : Graph) : Type 0 where
  pub same_methods : G.methods ≡ H.methods
  pub same_nodes : G.nodes ≡ H.nodes
  pub same_entry : (m : ℕ) → m < G.methods → G.entry m ≡ H.entry m
  pub same_method : (n : ℕ) → n < G.nodes → G.method n ≡ H.method n
  pub same_repeats : (n : ℕ) → n < G.nodes → G.repeats n ≡ H.repeats n
  pub same_goes : (n : ℕ) → G.Goes n → H.Goes n
  -- only a node of the table is a call, a return or a throw
  pub same_call : (n : ℕ) → G.Call n → (n < G.nodes) × H.Call n
  pub same_return : (n : ℕ) → G.Return n → (n < G.nodes) × H.Return n
  pub same_throw : (n e : ℕ) → G.Throw n e → (n < G.nodes) × H.Throw n e
  pub same_flow : (a b : ℕ) → G.Flow a b → H.Flow a b
  pub same_calls : (c m : ℕ) → G.Calls c m → H.Calls c m
  pub same_catch : (a e b : ℕ) → G.Catch a e b ↔ H.Catch a e b

-- the sheet T with other called marks and stocks: of them only rules 1 and 8 ask
abbrev pub restocked : {W : Effects} → Sheet W → (ℕ → Type 0) → (ℕ → W.Stock) → Sheet W
restocked T called stock = record { Called = called; stock = stock; Exit = T.Exit; exit = T.exit; Node = T.Node; node = T.node }

module _ (G H : Graph) (A : Alike G H) (W : Effects) (step : ℕ → W.Effect) where
  open A use {same_methods, same_entry, same_method, same_repeats, same_goes, same_call, same_return, same_throw, same_flow, same_calls, same_catch}

  uncaught : {n e : ℕ} → Uncaught G n e → Uncaught H n e
  uncaught {n} {e} u h c = u h ((same_catch n e h).1 c)

  -- What a rule names over G, it names over H: for nodes and exits from any opening stock and with any stocks of methods,
  module _ (o o' : W.Stock) (T : Sheet W) (called : ℕ → Type 0) (stock : ℕ → W.Stock) where
    abbrev U : Sheet W
    U = restocked T called stock

    pub rounds : {c m j : ℕ} → c < G.nodes → Rounds W G step o T c m j → Rounds W H step o' U c m j
    rounds {c} {j = j} l y = (subst (λ x. j < x) (same_repeats c l) y.0, y.1)

    pub node_ask : {r n : ℕ} {x : W.Effect} → AskNode W G step o T r n x → AskNode W H step o' U r n x
    node_ask (rule2 {m} l) = rw (same_entry m l) (rule2 (subst (λ x. m < x) same_methods l))
    node_ask (rule3 {n} {n'} g y f) = rule3 (same_goes n g) y (same_flow n n' f)
    node_ask (rule4 {n} {e} {h} t y c) = rule4 (same_throw n e t).1 y ((same_catch n e h).0 c)
    node_ask (rule7 {c} {m} {n'} k y l x f j a b) = let q = same_call c k in rule7 q.1 y (same_calls c m l) x (same_flow c n' f) j a (subst (λ x. j ≤ x) (same_repeats c q.0) b)
    node_ask (rule9 {c} {m} {e} {h} k y l x t j p) = let q = same_call c k in rule9 q.1 y (same_calls c m l) x ((same_catch c e h).0 t) j (rounds q.0 p)

    pub exit_ask : {r m x : ℕ} {a : W.Effect} → AskExit W G step o T r m x a → AskExit W H step o' U r m x a
    exit_ask (rule5 {n} r y) = let q = same_return n r in rw (same_method n q.0) (rule5 q.1 y)
    exit_ask (rule6 {n} {e} t y u) = let q = same_throw n e t in rw (same_method n q.0) (rule6 q.1 y (uncaught u))
    exit_ask (rule10 {c} {m} {e} k y l x u j p) = let q = same_call c k in rw (same_method c q.0) (rule10 q.1 y (same_calls c m l) x (uncaught u) j (rounds q.0 p))

  -- and for methods from the same.
  method_ask : (o : W.Stock) (T : Sheet W) {r m : ℕ} {s : W.Stock} → AskMethod W G step o T r m s → AskMethod W H step o T r m s
  method_ask o T rule1 = rule1
  method_ask o T (rule8 {c} {m} k y l j p) =
      let q = same_call c k in
      let e = same_method c q.0 in
      rw e (rule8 q.1 (y.0, subst T.Called e y.1) (same_calls c m l) j (rounds o o T T.Called T.stock q.0 p))

  -- So what obeys a rule over H obeys it over G, as a whole and at some coordinates.
  pub rule_alike : (o : W.Stock) (T : Sheet W) {r : ℕ} → Rule W H step o T r → Rule W G step o T r
  rule_alike o T R = record {
    methods_obey = λ a. R.methods_obey (method_ask o T a);
    nodes_obey = λ a. R.nodes_obey (node_ask o o T T.Called T.stock a);
    exits_obey = λ a. R.exits_obey (exit_ask o o T T.Called T.stock a);
  }

  pub rule_at_alike : (o : W.Stock) (T : Sheet W) (P : W.Coord → Type 0) {r : ℕ} → RuleAt W H step o T P r → RuleAt W G step o T P r
  rule_at_alike o T P R = record {
    methods_at = λ a. R.methods_at (method_ask o T a);
    nodes_at = λ a. R.nodes_at (node_ask o o T T.Called T.stock a);
    exits_at = λ a. R.exits_at (exit_ask o o T T.Called T.stock a);
  }

pub under_alike : {W : Effects} {G H : Graph} {U T : Sheet W} → Alike G H → Under W H U T → Under W G U T
under_alike A X = record {
  methods_under = X.methods_under;
  nodes_under = λ n l. X.nodes_under n (omega (arith, A.same_nodes));
  exits_under = λ m x l. X.exits_under m x (omega (arith, A.same_methods));
}
