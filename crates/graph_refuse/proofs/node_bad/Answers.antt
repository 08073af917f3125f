use borrow.Author.Tests.{lt-ltb}
use mathlib.Core.Path.{◌≡◌, sym, ◌∙◌}
use Rattle.words.proofs.Tests.{or_l, or_r}
use Rattle.graph_tables.specs.Fields.{node_kind}
use Rattle.graph_tables.specs.Named.{number_of}
use Rattle.graph_tables.proofs.Named.{number_named, none_named}
use Rattle.graph_refuse.specs.Bad.{out_of_range, node_bad}
use Rattle.graph_refuse.proofs.node_bad.Goals as goal

pub returns-in_default : goal.returns-in_default
unfolding node_bad out_of_range
returns-in_default c =
    let a = c.args in
    let none = none_named (node_kind a.g.now.file.now a.g.now.tables a.n) (sym c.kind_at.ensures ∙ c.in_default.is) in
    sym (or_l _ _ (or_l _ _ (or_l _ _ (or_l _ _ (or_r _ _ (lt-ltb _ _ none))))))

pub returns : goal.returns
unfolding node_bad
returns c =
    let a = c.args in
    let kind : node_kind a.g.now.file.now a.g.now.tables a.n ≡ number_of c.in-Some.kind = number_named _ _ (sym c.kind_at.ensures ∙ c.in-Some.is) in
    simp (
      kind,
      c.node_method-method.ensures.0,
      c.node_number-number.ensures.0,
      c.node_count-count.ensures.0,
      c.node_rights-rights.ensures,
      c.out_of_range.ensures,
      c.unused_set.ensures,
    )
