-- What the rules are held to: a file that passes, and a sheet of its shape.
use Rattle.std.specs.Prelude.{ℕ, ◌≡◌, List, length}
use Rattle.answer.specs.declared.Answer.TheVariants.{Pass}
use Rattle.graph_tables.specs.declared.Tables.{Tables}
use Rattle.graph_tables.specs.Trailer.{tables_of}
use Rattle.graph.specs.Judge.{judge_in}
use Rattle.graph.specs.Judgement.{shape_of}
use Rattle.sheet_layout.specs.declared.Shape.{Shape}
use Rattle.sheet_layout.specs.Layout.{sheet_bytes}

pub record Ready (f : List ℕ) (t : Tables) (x : Shape) (s : List ℕ) : Type 0 where
  pub passed : judge_in f t ≡ Pass
  pub own : t ≡ tables_of f
  pub shaped : x ≡ shape_of t
  pub long : length s ≡ sheet_bytes x
