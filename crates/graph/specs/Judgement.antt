-- What is found of a graph file by looking at it once.
use Rattle.std.specs.Prelude.{ℕ, cond, List, eqb}
use Rattle.answer.specs.declared.Answer.{Answer}
use Rattle.answer.specs.Number.{number_of}
use Rattle.graph_tables.specs.declared.Tables.{Tables}
use Rattle.graph_tables.specs.Trailer.{tables_of}
use Rattle.sheet_layout.specs.declared.Shape.{Shape}
use Rattle.graph.specs.declared.Judgement.{Judgement}
use Rattle.graph.specs.Judge.{judge_of}

-- the shape of the sheet of a file with the tables t
abbrev pub shape_of : Tables → Shape
shape_of t = record { methods = t.methods; nodes = t.nodes; types = t.types }

abbrev pub no_shape : Shape
no_shape = record { methods = 0; nodes = 0; types = 0 }

-- a file that passes has the sheet that its tables say, any other has none
unfoldable pub shape_for : Answer → Tables → Shape
shape_for a t = cond (eqb (number_of a) 0) (shape_of t) no_shape

abbrev pub judged_of : List ℕ → Judgement
judged_of f = record { answer = judge_of f; tables = tables_of f; shape = shape_for (judge_of f) (tables_of f) }
