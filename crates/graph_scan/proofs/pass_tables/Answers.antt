use mathlib.Core.Path.{◌∙◌}
use Rattle.graph_scan.specs.Scan.{judge_tables}
use Rattle.graph_scan.proofs.Stops.{stops, refuses}
use Rattle.graph_scan.proofs.pass_tables.Goals as goal

pub returns-in_err-pass_table : goal.returns-in_err-pass_table
unfolding judge_tables
returns-in_err-pass_table c = record { first = λ next. c.in_err-pass_table.ensures.first _ ∙ stops c.from_residual.result next c.from_residual.ensures.1; refusal = refuses c.from_residual.result _ c.from_residual.ensures.1 c.in_err-pass_table.ensures.refusal }

pub returns-in_err-pass_table-2 : goal.returns-in_err-pass_table-2
unfolding judge_tables
returns-in_err-pass_table-2 c = record { first = λ next. c.in_ok-pass_table.ensures.first _ ∙ c.in_err-pass_table-2.ensures.first _ ∙ stops c.from_residual-in_err-pass_table-2.result next c.from_residual-in_err-pass_table-2.ensures.1; refusal = refuses c.from_residual-in_err-pass_table-2.result _ c.from_residual-in_err-pass_table-2.ensures.1 c.in_err-pass_table-2.ensures.refusal }

pub returns-in_err-pass_table-3 : goal.returns-in_err-pass_table-3
unfolding judge_tables
returns-in_err-pass_table-3 c = record { first = λ next. c.in_ok-pass_table.ensures.first _ ∙ c.in_ok-pass_table-2.ensures.first _ ∙ c.in_err-pass_table-3.ensures.first _ ∙ stops c.from_residual-in_err-pass_table-3.result next c.from_residual-in_err-pass_table-3.ensures.1; refusal = refuses c.from_residual-in_err-pass_table-3.result _ c.from_residual-in_err-pass_table-3.ensures.1 c.in_err-pass_table-3.ensures.refusal }

pub returns-in_err-pass_table-4 : goal.returns-in_err-pass_table-4
unfolding judge_tables
returns-in_err-pass_table-4 c = record { first = λ next. c.in_ok-pass_table.ensures.first _ ∙ c.in_ok-pass_table-2.ensures.first _ ∙ c.in_ok-pass_table-3.ensures.first _ ∙ c.in_err-pass_table-4.ensures.first _ ∙ stops c.from_residual-in_err-pass_table-4.result next c.from_residual-in_err-pass_table-4.ensures.1; refusal = refuses c.from_residual-in_err-pass_table-4.result _ c.from_residual-in_err-pass_table-4.ensures.1 c.in_err-pass_table-4.ensures.refusal }

pub returns-in_err-pass_table-5 : goal.returns-in_err-pass_table-5
unfolding judge_tables
returns-in_err-pass_table-5 c = record { first = λ next. c.in_ok-pass_table.ensures.first _ ∙ c.in_ok-pass_table-2.ensures.first _ ∙ c.in_ok-pass_table-3.ensures.first _ ∙ c.in_ok-pass_table-4.ensures.first _ ∙ c.in_err-pass_table-5.ensures.first _ ∙ stops c.from_residual-in_err-pass_table-5.result next c.from_residual-in_err-pass_table-5.ensures.1; refusal = refuses c.from_residual-in_err-pass_table-5.result _ c.from_residual-in_err-pass_table-5.ensures.1 c.in_err-pass_table-5.ensures.refusal }

pub returns : goal.returns
unfolding judge_tables
returns c = record { first = λ next. c.in_ok-pass_table.ensures.first _ ∙ c.in_ok-pass_table-2.ensures.first _ ∙ c.in_ok-pass_table-3.ensures.first _ ∙ c.in_ok-pass_table-4.ensures.first _ ∙ c.in_ok-pass_table-5.ensures.first _ ∙ c.pass_table-6.ensures.first next; refusal = c.pass_table-6.ensures.refusal }
