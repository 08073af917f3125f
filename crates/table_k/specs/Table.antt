-- Document 01's known answers, K1 to K11, as one table, and an example of the change requests beside it.
use Rattle.std.specs.Prelude.{ℕ, List, [], ◌∷◌, replicate}
use Rattle.effect.specs.declared.Effect.{Effect}
use Rattle.effect.specs.Whole.{nothing_done, grant_of, then_of, both_of}
use Rattle.graph_tables.specs.Kinds.{plain_kind, grant_kind, draw_kind, call_kind, return_kind, throw_kind}
use Rattle.table_k.specs.File.{node, File, no_parents}

-- What a row says.
pub data Claim : Type 0 where
  -- the file passes; it is overdrawn, the node, the type and the line
  passes : File → Claim
  overdrawn : File → ℕ → ℕ → ℕ → Claim
  -- no run of the file arrives at the node
  unreached : File → ℕ → Claim
  -- of type 0 the effect has this keep-in, keep-max, cap and drop
  has : Effect → ℕ → ℕ → ℕ → ℕ → Claim
  -- the first effect is at most the second; it is not
  at_most : Effect → Effect → Claim
  not_at_most : Effect → Effect → Claim

-- K1 to K3: file A, with so much granted and so many repeats; it names no lines.
unfoldable pub a_with : ℕ → ℕ → File
a_with granted repeats =
    record {
      methods = 0 ∷ 3 ∷ [];
      nodes =
          node 0 grant_kind 0 granted 0x0101 0
          ∷ node 0 call_kind 0 repeats 0 0
          ∷ node 0 return_kind 0 0 0 0
          ∷ node 1 draw_kind 0 0 0x0101 0
          ∷ node 1 return_kind 0 0 0 0
          ∷ [];
      flow = (0, 1) ∷ (1, 2) ∷ (3, 4) ∷ [];
      calls = (1, 1) ∷ [];
      parents = no_parents;
      catches = [];
      opening = (0, 0) ∷ [];
    }

-- K9: a grant 0 and then a draw, in lines 11 and 12, on an endless opening stock that has the right.
unfoldable pub revoked : File
revoked =
    record {
      methods = 0 ∷ [];
      nodes = node 0 grant_kind 0 0 0x0101 11 ∷ node 0 draw_kind 0 0 0x0101 12 ∷ [];
      flow = (0, 1) ∷ [];
      calls = [];
      parents = no_parents;
      catches = [];
      opening = (0x0101, 255) ∷ [];
    }

-- K10: a draw of 0301h, in the last line that there is, on an endless opening stock of rights 0101h.
unfoldable pub without_right : File
without_right =
    record {
      methods = 0 ∷ [];
      nodes = node 0 draw_kind 0 0 0x0301 65535 ∷ [];
      flow = [];
      calls = [];
      parents = no_parents;
      catches = [];
      opening = (0x0101, 255) ∷ [];
    }

-- K11: a call, and behind it a draw that nothing covers; the method called is one plain node on a loop.
unfoldable pub never_returns : File
never_returns =
    record {
      methods = 0 ∷ 2 ∷ [];
      nodes = node 0 call_kind 0 1 0 0 ∷ node 0 draw_kind 0 0 0x0101 0 ∷ node 1 plain_kind 0 0 0 0 ∷ [];
      flow = (0, 1) ∷ (2, 2) ∷ [];
      calls = (0, 1) ∷ [];
      parents = no_parents;
      catches = [];
      opening = (0, 0) ∷ [];
    }

-- the effect with this keep-in, keep-max, cap and drop at every type
abbrev pub every : ℕ → ℕ → ℕ → ℕ → Effect
every i m c d = record { keepin = replicate 6 i; keepmax = replicate 6 m; cap = replicate 6 c; drop = replicate 6 d }

-- a drop with all rights kept and cap 255
abbrev pub dropping : ℕ → Effect
dropping d = every 0 0xffff 255 d

-- The number of each row, and what it says.
unfoldable pub table : List (ℕ × Claim)
table =
    (1, passes (a_with 2 2))
    ∷ (2, overdrawn (a_with 2 3) 3 0 0)
    ∷ (3, passes (a_with 255 255))
    ∷ (4, has (then_of (dropping 200) (dropping 100)) 0 0xffff 255 255)
    ∷ (5, has (then_of (dropping 253) (dropping 1)) 0 0xffff 255 255)
    ∷ (6, has (both_of (grant_of 0 0x0101 3) nothing_done) 0 0x0101 3 0)
    ∷ (7, at_most (every 0 0x0101 0 256) (every 0 0x0101 5 9))
    ∷ (7, not_at_most (every 0 0x0101 5 9) (every 0 0x0101 0 256))
    ∷ (8, has (then_of (grant_of 0 0x0101 2) (dropping 2)) 0x0101 0x0101 0 256)
    ∷ (9, overdrawn revoked 1 0 12)
    ∷ (10, overdrawn without_right 0 0 65535)
    ∷ (11, unreached never_returns 1)
    ∷ (11, passes never_returns)
    ∷ []

-- P4: a throw of kind 1, whose parent is 0, with a catch row for each. The handler of 0, node 2, is a draw that nothing covers.
unfoldable pub own_row_first : File
own_row_first =
    record {
      methods = 0 ∷ [];
      nodes = node 0 throw_kind 1 0 0 0 ∷ node 0 return_kind 0 0 0 0 ∷ node 0 draw_kind 0 0 0x0101 0 ∷ [];
      flow = [];
      calls = [];
      parents = 255 ∷ 0 ∷ replicate 6 255;
      catches = (0, 0, 2) ∷ (0, 1, 1) ∷ [];
      opening = (0, 0) ∷ [];
    }

-- "At a node, the catch rows of the thrown kind apply": no run arrives at the parent's handler, and the file passes.
unfoldable pub beside : List (ℕ × Claim)
beside = (12, unreached own_row_first 2) ∷ (12, passes own_row_first) ∷ []
