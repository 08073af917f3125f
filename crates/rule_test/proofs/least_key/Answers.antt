use mathlib.Core.Path.{ap, ◌∙◌}
use mathlib.Core.Bool.{false}
use Rattle.rule_ask.specs.Walk.{tables_walk, sheet_walk}
use Rattle.rule_test.specs.Keys.{lessened, least_key}
use Rattle.rule_test.proofs.least_key.Goals as goal

pub returns : goal.returns
unfolding least_key sheet_walk
returns c =
    let a = c.args in
    c.of_tables.ensures ∙ ap (tables_walk a.g.now.file.now a.g.now.tables a.x (λ v. a.s.now) (lessened a.x a.s.now) false) c.at_start.ensures
