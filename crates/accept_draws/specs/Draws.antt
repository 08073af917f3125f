-- Which draws are not covered, by what a sheet says, and the verdict on it.
use Rattle.std.specs.Prelude.{ℕ, Bool, cond, ◌&&◌, not, List, ltb, eqb}
use Rattle.words.specs.Lowest.{lowest}
use Rattle.answer.specs.declared.Answer.{Answer}
use Rattle.answer.specs.declared.Answer.TheVariants.{Pass}
use Rattle.effect.specs.Whole.{covers_of}
use Rattle.graph_tables.specs.declared.Tables.{Tables}
use Rattle.graph_tables.specs.Kinds.{draw_kind}
use Rattle.graph_tables.specs.Fields.{node_kind, node_number, node_rights}
use Rattle.graph_places.specs.Places.{overdrawn_at}
use Rattle.sheet_layout.specs.declared.Shape.{Shape}
use Rattle.reach.specs.Node.{is_reached, node_stock}

-- node n is a draw that is reached and not covered
unfoldable pub uncovered_at : List ℕ → Tables → Shape → List ℕ → ℕ → Bool
uncovered_at f t x s n =
    eqb (node_kind f t n) draw_kind && (is_reached f t x s n && not (covers_of (node_stock f t x s n) (node_number f t n) (node_rights f t n)))

-- 13 overdrawn, 0 pass
abbrev pub verdict_of : List ℕ → Tables → Shape → List ℕ → Answer
verdict_of f t x s = cond (ltb (lowest (uncovered_at f t x s) t.nodes) t.nodes) (overdrawn_at f t (lowest (uncovered_at f t x s) t.nodes)) Pass
