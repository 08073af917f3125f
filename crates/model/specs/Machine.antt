-- The machine whose runs document 01 describes in its section "Runs". Nothing here knows of effects or of sheets.
use Rattle.std.specs.Prelude.{List, [], ◌∷◌, ℕ, ◌-◌, ◌<◌}

-- What the tables say, all but the opening stock. A method has its entry node, a node its method and, where it is a call, its repeats.
pub record Graph : Type 1 where
  pub methods : ℕ
  pub nodes : ℕ
  pub entry : ℕ → ℕ
  pub method : ℕ → ℕ
  pub repeats : ℕ → ℕ
  -- the node is plain, a grant or a draw; a call; a return; a throw of the exception
  pub Goes : ℕ → Type 0
  pub Call : ℕ → Type 0
  pub Return : ℕ → Type 0
  pub Throw : ℕ → ℕ → Type 0
  -- there is a flow row from, to; a call row node, method; a catch row from, exception, to that applies: one of the exception itself or,
  -- if it has none at the node, of its nearest ancestor that has some
  pub Flow : ℕ → ℕ → Type 0
  pub Calls : ℕ → ℕ → Type 0
  pub Catch : ℕ → ℕ → ℕ → Type 0

-- What the nodes do to what is held: the own step of each plain, grant or draw node; and, where the node is a draw, whether it is covered.
pub record Doing (Stock : Type 0) : Type 1 where
  pub act : ℕ → Stock → Stock
  pub Covers : ℕ → Stock → Type 0

-- a call that is open: its node, the method entered, the repeats left
pub data Frame : Type 0 where
  frame : ℕ → ℕ → ℕ → Frame

-- A run has arrived at a node and holds a stock, before that node's own step; or an exception is leaving a method. Either with its open calls.
pub data Config (Stock : Type 0) : Type 0 where
  At : ℕ → List Frame → Stock → Config Stock
  Out : ℕ → List Frame → Stock → Config Stock

-- no catch row applies to the exception e at the node n
abbrev pub Uncaught : Graph → ℕ → ℕ → Type 0
Uncaught G n e = (h : ℕ) → G.Catch n e h → ⊥

module _ {Stock : Type 0} (G : Graph) (D : Doing Stock) where
  open G use {entry, repeats, Goes, Call, Return, Throw, Flow, Calls, Catch}
  open D use {act, Covers}

  -- Where no step fits, with no caller or no row to follow, the run ends. A caller that an exception or a return passes is not
  -- arrived at again: no step leads to it.
  pub data Step : Config Stock → Config Stock → Type 0 where
    -- Plain, grant and draw go along any flow row.
    along : {n n' : ℕ} {σ : List Frame} {s : Stock} → Goes n → Flow n n' → Step (At n σ s) (At n' σ (act n s))
    -- A call enters any called method and remembers node, method and repeats left.
    enter : {c m : ℕ} {σ : List Frame} {s : Stock} → Call c → Calls c m → Step (At c σ s) (At (entry m) (frame c m (repeats c) ∷ σ) s)
    -- A return either enters that same method again, if more than one repeat is left, with one fewer,
    again : {n c m k : ℕ} {σ : List Frame} {s : Stock} → Return n → 1 < k → Step (At n (frame c m k ∷ σ) s) (At (entry m) (frame c m (k - 1) ∷ σ) s)
    -- or goes along a flow row of the call.
    back : {n n' c m k : ℕ} {σ : List Frame} {s : Stock} → Return n → Flow c n' → Step (At n (frame c m k ∷ σ) s) (At n' σ s)
    -- A throw goes along any catch row for it.
    caught : {n e h : ℕ} {σ : List Frame} {s : Stock} → Throw n e → Catch n e h → Step (At n σ s) (At h σ s)
    -- With none, the exception leaves the method:
    leaves : {n e : ℕ} {σ : List Frame} {s : Stock} → Throw n e → Uncaught G n e → Step (At n σ s) (Out e σ s)
    -- at the caller it goes along any catch row for that exception, the repeats dropped,
    handled : {e c m k h : ℕ} {σ : List Frame} {s : Stock} → Catch c e h → Step (Out e (frame c m k ∷ σ) s) (At h σ s)
    -- and only if there is none it leaves again.
    passes : {e c m k : ℕ} {σ : List Frame} {s : Stock} → Uncaught G c e → Step (Out e (frame c m k ∷ σ) s) (Out e σ s)

  -- any number of steps
  pub data Steps (a : Config Stock) : Config Stock → Type 0 where
    stay : Steps a a
    more : {b c : Config Stock} → Steps a b → Step b c → Steps a c

  -- A run starts at method 0's entry with the opening stock.
  abbrev pub Run : Stock → Config Stock → Type 0
  Run opening b = Steps (At (entry 0) [] opening) b

  -- A run arrives at a node when it starts there, follows a flow or catch row to it, or enters a method there; what it holds before that
  -- node's own step is what it brings.
  abbrev pub Arrives : Stock → ℕ → Stock → Type 0
  Arrives opening n s = (σ : List Frame) × Run opening (At n σ s)

  -- A run overdraws at a node: it arrives there with what does not cover the node's draw, flow row or not.
  abbrev pub Overdraws : Stock → ℕ → Type 0
  Overdraws opening n = (s : Stock) × Arrives opening n s × (Covers n s → ⊥)
