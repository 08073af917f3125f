-- Families of exception kinds: a kind, its parent, the parent's parent, and so on. A parent is a lower number; any other byte stands for none.
use Rattle.std.specs.Prelude.{ℕ, zero, suc, ◌<◌, Bool, cond, ◌||◌, List, leb}
use Rattle.graph_tables.specs.declared.Tables.{Tables}
use Rattle.graph_tables.specs.Fields.{parent_of}

module _ (f : List ℕ) (t : Tables) where
  -- c is the nearest, of the kind e and its ancestors, of which P holds
  pub data Nearest (P : ℕ → Type 0) : ℕ → ℕ → Type 0 where
    own : {e : ℕ} → P e → Nearest P e e
    above : {e c : ℕ} → (P e → ⊥) → parent_of f t e < e → Nearest P (parent_of f t e) c → Nearest P e c

  -- the first, from the kind e upwards, for which the test holds, or the last of the family; k steps up at most
  unfoldable pub climb : (ℕ → Bool) → ℕ → ℕ → ℕ
  climb p zero e = e
  climb p (suc k) e = cond (p e || leb e (parent_of f t e)) e (climb p k (parent_of f t e))

  -- e steps are enough, since each leads to a lower number
  unfoldable pub nearest : (ℕ → Bool) → ℕ → ℕ
  nearest p e = climb p e e
