-- The area: byte n is set if node n waits, to be looked at again; 512 + m if an exit of method m was lowered, 576 + m if its stock was. What
-- waits by these flags, and what a row that wrote something sets.
use Rattle.std.specs.Prelude.{ℕ, ◌+◌, ◌≤◌, ◌<◌, ◌≡◌, ◌⊎◌, Bool, true, false, List, eqb, length, get_or}
use Rattle.answer.specs.declared.Answer.TheVariants.{Pass}
use Rattle.graph_tables.specs.declared.Tables.{Tables}
use Rattle.graph_tables.specs.declared.Table.{Table}
use Rattle.graph_tables.specs.declared.Table.TheVariants.{Trailer, Methods, Nodes, Flow, Calls, Parents, Catches, Opening}
use Rattle.graph_tables.specs.Kinds.{return_kind, throw_kind}
use Rattle.graph_tables.specs.Fields.{node_method, node_kind, node_number, flow_from, flow_to, call_node, call_method}
use Rattle.graph_tables.specs.Trailer.{tables_of}
use Rattle.graph.specs.Judge.{judge_in}
use Rattle.graph_rows.specs.declared.Stretch.{Stretch}
use Rattle.graph_rows.specs.Rows.{flow_of, catches_of, uncaught_of, target_of}
use Rattle.graph_rows.proofs.Stretches.{In}
use Rattle.rule_ask.specs.Gives.{turned}

-- the flag i is set
abbrev pub Waits : List ℕ → ℕ → Type 0
Waits a i = 0 < get_or a i 0

-- flags were set, none was cleared
pub record Woken (a b : List ℕ) : Type 0 where
  pub long : length b ≡ length a
  pub kept : (i : ℕ) → Waits a i → Waits b i

-- the tables are those of a file that passes, and the area has its length
pub record Able (f : List ℕ) (t : Tables) (a : List ℕ) : Type 0 where
  pub passed : judge_in f t ≡ Pass
  pub own : t ≡ tables_of f
  pub wide : length a ≡ 4096

-- only the methods' flags were cleared, and all of these
pub record Forgot (a b : List ℕ) : Type 0 where
  pub long : length b ≡ length a
  pub nodes : (i : ℕ) → i < 512 → get_or b i 0 ≡ get_or a i 0
  pub methods : (i : ℕ) → 512 ≤ i → i < 640 → get_or b i 0 ≡ 0

-- the flags of the steps from k on and before l, of n forwards or backwards, are clear
abbrev pub Clear : List ℕ → Bool → ℕ → ℕ → ℕ → Type 0
Clear a backwards n k l = (j : ℕ) → k ≤ j → j < l → get_or a (turned backwards n j) 0 ≡ 0

module _ (f : List ℕ) (t : Tables) where
  -- row k of a table is to be looked at again
  abbrev pub Awake : List ℕ → Table → ℕ → Type 0
  Awake a Trailer k = ⊥
  Awake a Methods k = ⊥
  Awake a Nodes k = Waits a k
  Awake a Flow k = Waits a (flow_from f t k)
  Awake a Calls k = Waits a (call_node f t k) ⊎ (Waits a (512 + call_method f t k) ⊎ Waits a (576 + node_method f t (call_node f t k)))
  Awake a Parents k = ⊥
  Awake a Catches k = ⊥
  Awake a Opening k = ⊥

  -- the nodes that the rows of a stretch lead to wait
  abbrev pub AllWait : List ℕ → Table → Stretch → Type 0
  AllWait a table z = (j : ℕ) → In z j → Waits a (target_of f t table j)

  -- so does whatever an exception e leads to at the node n
  pub record LeavesWait (a : List ℕ) (n e : ℕ) : Type 0 where
    pub handlers : uncaught_of f t n e ≡ false → AllWait a Catches (catches_of f t n e)
    pub exit : uncaught_of f t n e ≡ true → Waits a (512 + node_method f t n)

  pub record EndWaits (a : List ℕ) (n : ℕ) : Type 0 where
    pub returns : eqb (node_kind f t n) return_kind ≡ true → Waits a (512 + node_method f t n)
    pub throws : eqb (node_kind f t n) throw_kind ≡ true → LeavesWait a n (node_number f t n)

  pub record CallWaits (a : List ℕ) (k : ℕ) : Type 0 where
    pub after : AllWait a Flow (flow_of f t (call_node f t k))
    pub into : Waits a (576 + call_method f t k)
    pub thrown : (e : ℕ) → e < 8 → LeavesWait a (call_node f t k) e

  -- and whatever row k leads to
  abbrev pub RowWaits : List ℕ → Table → ℕ → Type 0
  RowWaits a Trailer k = Unit {0}
  RowWaits a Methods k = Waits a (target_of f t Methods k)
  RowWaits a Nodes k = EndWaits a k
  RowWaits a Flow k = Waits a (flow_to f t k)
  RowWaits a Calls k = CallWaits a k
  RowWaits a Parents k = Unit {0}
  RowWaits a Catches k = Unit {0}
  RowWaits a Opening k = Unit {0}

  -- the flags of methods are passed on to the calls before row k that they concern
  abbrev pub PassedOn : List ℕ → List ℕ → ℕ → Type 0
  PassedOn a b k = (i : ℕ) → i < k → Awake a Calls i → Waits b (call_node f t i)

  -- they are passed on to all, and cleared; the flags of nodes stay
  pub record Spread (a b : List ℕ) : Type 0 where
    pub long : length b ≡ length a
    pub nodes : (i : ℕ) → i < 512 → Waits a i → Waits b i
    pub calls : (k : ℕ) → k < t.calls → Awake a Calls k → Waits b (call_node f t k)
    pub methods : (i : ℕ) → 512 ≤ i → i < 640 → get_or b i 0 ≡ 0
