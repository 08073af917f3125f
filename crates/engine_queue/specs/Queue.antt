-- What the queue engine keeps: the sheet is good, and each row that no flag has looked at again has all that it asks.
use Rattle.std.specs.Prelude.{ℕ, ◌<◌, ◌≤◌, ◌≡◌, ◌⊎◌, Bool, true, false, List, length, get_or}
use Rattle.answer.specs.declared.Answer.TheVariants.{Pass}
use Rattle.graph_tables.specs.declared.Tables.{Tables}
use Rattle.graph_tables.specs.declared.Table.{Table}
use Rattle.graph_tables.specs.declared.Table.TheVariants.{Methods, Nodes, Flow, Calls}
use Rattle.graph_tables.specs.Rows.{rows_of}
use Rattle.graph_tables.specs.Fields.{flow_from, flow_to, call_node}
use Rattle.graph.specs.Judge.{judge_of}
use Rattle.graph_nodes.specs.Nodes.{opening_in}
use Rattle.sheet_layout.specs.declared.Shape.{Shape}
use Rattle.sheet_layout.specs.Layout.{effect_size, method_at, node_at}
use Rattle.sheet.specs.Read.{SameWords}
use Rattle.rule_ask.specs.Walk.{Ask, of_stock, meets}
use Rattle.rule_ask.specs.Gives.{turned}
use Rattle.rule_ask.proofs.Asks.{RowAsks, Asks}
use Rattle.engine_lower.proofs.Good.{Good, height}
use Rattle.rule_ready.specs.Ready.{Ready}
use Rattle.engine_flags.specs.Flags.{Awake}

module _ (f : List ℕ) (t : Tables) (x : Shape) where
  -- the sheet meets what row k asks
  abbrev pub Met : List ℕ → Table → ℕ → Type 0
  Met s table k = (a : Ask) → RowAsks f t x s s table k a → meets x s a ≡ true

  -- node n stands in r as in s
  abbrev pub NodeStays : List ℕ → List ℕ → ℕ → Type 0
  NodeStays s r n = SameWords s r (node_at x n) (effect_size x.types)

  pub record Queue (s a : List ℕ) : Type 0 where
    pub ready : Ready f t x s
    pub passed : judge_of f ≡ Pass
    pub good : Good f passed s
    pub wide : length a ≡ 4096
    pub start : meets x s (of_stock 1 (method_at x 0) (opening_in f t)) ≡ true
    pub rows : (table : Table) (k : ℕ) → k < rows_of t table → Awake f t a table k ⊎ Met s table k

  -- From s and a to r and b: something was written, and the sheet is lower, or nothing, and all is as it was.
  pub record Moved (s a r b : List ℕ) (wrote : Bool) : Type 0 where
    pub queue : Queue r b
    pub falls : wrote ≡ true → height x r < height x s
    pub idle : wrote ≡ false → (r ≡ s) × (b ≡ a)

  -- From s to r flow row k was done: only the node that it leads to may have changed, and a row whose own node stands as it was has what it had.
  pub record FlowMoved (k : ℕ) (s r : List ℕ) : Type 0 where
    pub apart : (n : ℕ) → n < t.nodes → (flow_to f t k ≡ n → ⊥) → NodeStays s r n
    pub kept : (i : ℕ) → i < t.flows → NodeStays s r (flow_from f t i) → Met s Flow i → Met r Flow i
    pub own : NodeStays s r (flow_from f t k) → Met r Flow k

  -- flow row k leaves node n and does not lead back to it
  abbrev pub Leaves : ℕ → ℕ → Type 0
  Leaves n k = (k < t.flows) × (flow_from f t k ≡ n) × (flow_to f t k ≡ n → ⊥)

  -- the same of row k, of the rows of a stretch, of node n: where nothing was written, all that they ask was met
  pub record RowMoved (table : Table) (k : ℕ) (s a r b : List ℕ) (wrote : Bool) : Type 0 where
    pub moved : Moved s a r b wrote
    pub met : wrote ≡ false → Met s table k
    pub flow : table ≡ Flow → FlowMoved k s r

  pub record StretchMoved (table : Table) (from to : ℕ) (s a r b : List ℕ) (wrote : Bool) : Type 0 where
    pub moved : Moved s a r b wrote
    pub met : wrote ≡ false → (j : ℕ) → from ≤ j → j < to → Met s table j
    pub flow : table ≡ Flow → (n : ℕ) → n < t.nodes → ((j : ℕ) → from ≤ j → j < to → Leaves n j) → NodeStays s r n × ((j : ℕ) → from ≤ j → j < to → Met r Flow j)

  pub record NodeMet (s : List ℕ) (n : ℕ) : Type 0 where
    pub flow : (k : ℕ) → k < t.flows → flow_from f t k ≡ n → Met s Flow k
    pub node : Met s Nodes n
    pub calls : (k : ℕ) → k < t.calls → call_node f t k ≡ n → Met s Calls k

  pub record NodeMoved (n : ℕ) (s a r b : List ℕ) (wrote : Bool) : Type 0 where
    pub moved : Moved s a r b wrote
    pub met : wrote ≡ false → NodeMet s n

  -- Node n is visited: something was written, and the sheet is lower, or nothing, and it does not wait.
  pub record Visited (n : ℕ) (s a r b : List ℕ) (wrote : Bool) : Type 0 where
    pub queue : Queue r b
    pub falls : wrote ≡ true → height x r < height x s
    pub idle : wrote ≡ false → (r ≡ s) × (get_or b n 0 ≡ 0) × ((i : ℕ) → (i ≡ n → ⊥) → get_or b i 0 ≡ get_or a i 0)

  -- The first k of the nodes were visited, forwards or backwards.
  pub record Passing (backwards : Bool) (k : ℕ) (s a r b : List ℕ) (wrote : Bool) : Type 0 where
    pub queue : Queue r b
    pub falls : wrote ≡ true → height x r < height x s
    pub idle : wrote ≡ false → (r ≡ s) × ((j : ℕ) → j < k → get_or b (turned backwards t.nodes j) 0 ≡ 0) × ((i : ℕ) → t.nodes ≤ i → get_or b i 0 ≡ get_or a i 0)

  -- no node of the file waits, and no method has a flag
  pub record Quiet (a : List ℕ) : Type 0 where
    pub nodes : (n : ℕ) → n < t.nodes → get_or a n 0 ≡ 0
    pub methods : (i : ℕ) → 512 ≤ i → i < 640 → get_or a i 0 ≡ 0

  pub record Round (s r b : List ℕ) (wrote : Bool) : Type 0 where
    pub queue : Queue r b
    pub falls : wrote ≡ true → height x r < height x s
    pub quiet : wrote ≡ false → Quiet b

  -- the sheet is good, and meets rule 1, and rule 2 of the methods before m
  pub record Entered (m : ℕ) (s : List ℕ) : Type 0 where
    pub ready : Ready f t x s
    pub passed : judge_of f ≡ Pass
    pub good : Good f passed s
    pub start : meets x s (of_stock 1 (method_at x 0) (opening_in f t)) ≡ true
    pub entries : (k : ℕ) → k < m → Met s Methods k

  -- the sheet is good, and meets all that is asked
  pub record Settled (s : List ℕ) : Type 0 where
    pub passed : judge_of f ≡ Pass
    pub good : Good f passed s
    pub met : (a : Ask) → Asks f t x s s a → meets x s a ≡ true
