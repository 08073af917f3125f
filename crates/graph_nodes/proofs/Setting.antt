-- A file that passes gives the theorems of the model what they ask for.
use Prim.Native.Nat.{ℕ, ◌<◌}
use mathlib.Core.Path.{◌≡◌, sym, subst}
use mathlib.Core.List.{List}
use native.Mathlib.Decide.{ℕ_discrete, dec_lt}
use native.Mathlib.Omega.{arith}
use Rattle.words.proofs.Read.{word_lt}
use Rattle.answer.specs.declared.Answer.TheVariants.{Pass}
use Rattle.graph_tables.specs.Trailer.{tables_of}
use Rattle.graph_tables.specs.Kinds.{grant_kind, draw_kind}
use Rattle.graph_tables.specs.Fields.{node_kind, node_rights}
use Rattle.graph_refuse.proofs.Fit.{node_fit}
use Rattle.graph.specs.Judge.{judge_of}
use Rattle.graph.proofs.Passed.{judged}
use Rattle.graph.proofs.Whole.{formed, limits}
use Rattle.model.specs.Stocks.{permits, Does, plain}
use Rattle.model.specs.Program.{doings, steps}
use Rattle.model.proofs.Setting.{Setting}
use Rattle.model.proofs.Stocks.{laws, told, Fits}
use Rattle.graph_nodes.specs.Nodes.{does_in}
use Rattle.graph_nodes.specs.Program.{program_of}
use Rattle.graph_nodes.proofs.Cases.{does_outside, does_grant, does_draw, does_plain}

rights_lt : (f : List ℕ) (n : ℕ) → node_rights f (tables_of f) n < 65536
unfolding node_rights
rights_lt f n = word_lt f _

module _ (f : List ℕ) (pass : judge_of f ≡ Pass) where
  here : (n : ℕ) (d : Does) → does_in f (tables_of f) n ≡ d → Fits d → Fits (does_in f (tables_of f) n)
  here n d e h = subst Fits (sym e) h

  pub fits : (n : ℕ) → Fits (does_in f (tables_of f) n)
  fits n = elim (dec_lt n (tables_of f).nodes) [
    | no h ↦ here n plain (does_outside f (tables_of f) n (omega arith)) tt
    | yes h ↦ elim (ℕ_discrete (node_kind f (tables_of f) n) grant_kind) [
      | yes g ↦ here n _ (does_grant f (tables_of f) n h g) tt
      | no g ↦ elim (ℕ_discrete (node_kind f (tables_of f) n) draw_kind) [
        | yes d ↦
            let k = node_fit f (tables_of f) n ((judged f (tables_of f) pass).nodes n h) in
            here n _ (does_draw f (tables_of f) n h d) (omega (arith, k.draw_type d, (limits f pass).types), rights_lt f n)
        | no d ↦ here n plain (does_plain f (tables_of f) n h g d) tt
      ]
    ]
  ]

  abbrev pub setting : Setting
  setting = record {
    W = permits;
    laws = laws;
    G = (program_of f).graph;
    formed = formed f pass;
    D = doings (program_of f);
    step = steps (program_of f);
    told = told (program_of f).does fits;
    opening = (program_of f).opening;
  }
