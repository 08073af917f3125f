use mathlib.Core.Path.{◌≡◌, ap, ◌∙◌}
use mathlib.Core.Bool.{true, false}
use Rattle.graph_tables.specs.declared.Table.TheVariants.{Flow}
use Rattle.rule_ask.specs.Walk.{rows_walk, after_walk}
use Rattle.rule_test.specs.Keys.{lessened}
use Rattle.rule_test.proofs.after_call.Goals as goal

pub returns-then-c : goal.returns-then-c
unfolding after_walk
returns-then-c c =
    let a = c.args in
    let r : a.c.returns ≡ true = c.if-c.true in
    c.of_rows.ensures
    ∙ ap (λ z. rows_walk a.g.now.file.now a.g.now.tables a.x (λ v. a.s.now) (lessened a.x a.s.now) Flow 7 a.c.rounds.whole z a.least) c.flow_of-rows.ensures
    ∙ simp r

pub returns : goal.returns
unfolding after_walk
returns c =
    let r : c.args.c.returns ≡ false = c.if-c.false in
    simp r
