use mathlib.Core.Path.{sym, ap, ◌∙◌}
use Rattle.graph_tables.specs.declared.Table.TheVariants.{Calls}
use Rattle.graph_refuse.specs.Bad.{uncalled}
use Rattle.graph_rows.specs.Rows.{no_rows}
use Rattle.graph.proofs.Stages.{no_rows_named}
use Rattle.graph.proofs.uncalled.Goals as goal

pub returns-then-is_kind : goal.returns-then-is_kind
unfolding uncalled
returns-then-is_kind c =
    let none = c.no_rows.ensures ∙ ap no_rows c.calls_of.ensures ∙ no_rows_named c.args.g.now.file.now c.args.g.now.tables (c.requires Calls) c.args.n in
    simp (sym c.is_kind.ensures ∙ c.if-is_kind.true, none)

pub returns : goal.returns
unfolding uncalled
returns c = simp (sym c.is_kind.ensures ∙ c.if-is_kind.false)
