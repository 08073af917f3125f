-- The trailer, and what it says of the tables.
use Rattle.std.specs.Prelude.{ℕ, ◌+◌, ◌-◌, ◌*◌, List, length}
use Rattle.words.specs.Bytes.{word_at}
use Rattle.graph_tables.specs.declared.Tables.{Tables}

-- a trailer of 14 bytes ends the file
unfoldable pub trailer_at : List ℕ → ℕ
trailer_at f = length f - 14

-- The trailer holds M, N, F, C, X, T and the distance back.
unfoldable pub trailer : List ℕ → ℕ → ℕ
trailer f i = word_at f (trailer_at f + 2 * i)

-- Seven tables stand one after the other from byte 0; that of the parents has 8 bytes. They end at 2M + 8N + 4F + 4C + 8 + 6X + 4T.
unfoldable pub tables_of : List ℕ → Tables
tables_of f =
    record {
      methods = trailer f 0;
      nodes = trailer f 1;
      flows = trailer f 2;
      calls = trailer f 3;
      catches = trailer f 4;
      types = trailer f 5;
      nodesat = 2 * trailer f 0;
      flowsat = 2 * trailer f 0 + 8 * trailer f 1;
      callsat = 2 * trailer f 0 + 8 * trailer f 1 + 4 * trailer f 2;
      parentsat = 2 * trailer f 0 + 8 * trailer f 1 + 4 * trailer f 2 + 4 * trailer f 3;
      catchesat = 2 * trailer f 0 + 8 * trailer f 1 + 4 * trailer f 2 + 4 * trailer f 3 + 8;
      openingat = 2 * trailer f 0 + 8 * trailer f 1 + 4 * trailer f 2 + 4 * trailer f 3 + 8 + 6 * trailer f 4;
      end = 2 * trailer f 0 + 8 * trailer f 1 + 4 * trailer f 2 + 4 * trailer f 3 + 8 + 6 * trailer f 4 + 4 * trailer f 5;
    }
