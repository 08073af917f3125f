-- The program that a file's bytes say, and its runs. It is defined for any bytes.
use Rattle.std.specs.Prelude.{ℕ, ◌≡◌, List}
use Rattle.answer.specs.declared.Answer.{Answer}
use Rattle.answer.specs.Number.{number_of}
use Rattle.effect.specs.declared.Stock.{Stock}
use Rattle.model.specs.Machine.{Arrives, Overdraws}
use Rattle.model.specs.Program.{Program, doings}
use Rattle.graph_tables.specs.Trailer.{tables_of}
use Rattle.graph.specs.Graph.{graph_of}
use Rattle.graph_nodes.specs.Nodes.{does_in, opening_in}

abbrev pub program_of : List ℕ → Program
program_of f = record { graph = graph_of f; does = does_in f (tables_of f); opening = opening_in f (tables_of f) }

-- a run arrives at the node n and brings h; a run overdraws at the node n
abbrev pub Brings : List ℕ → ℕ → Stock → Type 0
Brings f n h = Arrives (program_of f).graph (doings (program_of f)) (program_of f).opening n h

abbrev pub Overdrawing : List ℕ → ℕ → Type 0
Overdrawing f n = Overdraws (program_of f).graph (doings (program_of f)) (program_of f).opening n

-- No graph that is answered 0 has a run that overdraws.
abbrev pub Safe : List ℕ → Answer → Type 0
Safe f a = number_of a ≡ 0 → (n : ℕ) → Overdrawing f n → ⊥
