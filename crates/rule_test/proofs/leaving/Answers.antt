use Prim.Native.Nat.{◌+◌}
use mathlib.Core.Path.{◌≡◌, sym, ap, ◌∙◌}
use mathlib.Core.Bool.{true, false}
use Rattle.graph_tables.specs.declared.Table.TheVariants.{Catches}
use Rattle.graph_rows.specs.Rows.{no_rows, uncaught_of}
use Rattle.sheet_layout.specs.Layout.{exit_at}
use Rattle.rule_ask.specs.Walk.{of_effect, rows_walk, leaving_walk}
use Rattle.rule_test.specs.Keys.{lessened}
use Rattle.rule_test.proofs.leaving.Goals as goal

pub returns-then-no_rows : goal.returns-then-no_rows
unfolding leaving_walk
returns-then-no_rows c =
    let a = c.args in
    let u : uncaught_of a.g.now.file.now a.g.now.tables a.node a.e ≡ true = ap no_rows (sym c.catches_of-handlers.ensures) ∙ sym c.no_rows.ensures ∙ c.if-no_rows.true in
    let w = c.exit_at-w.ensures ∙ ap (λ m. exit_at a.x m (1 + a.e)) c.node_method.ensures.0 in
    c.effect_key.ensures ∙ ap (λ v. lessened a.x a.s.now (of_effect a.out v a.y) a.least) w ∙ simp u

pub returns : goal.returns
unfolding leaving_walk
returns c =
    let a = c.args in
    let u : uncaught_of a.g.now.file.now a.g.now.tables a.node a.e ≡ false = ap no_rows (sym c.catches_of-handlers.ensures) ∙ sym c.no_rows.ensures ∙ c.if-no_rows.false in
    c.of_rows.ensures
    ∙ ap (λ z. rows_walk a.g.now.file.now a.g.now.tables a.x (λ v. a.s.now) (lessened a.x a.s.now) Catches a.caught a.y z a.least) c.catches_of-handlers.ensures
    ∙ simp u
