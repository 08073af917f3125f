use mathlib.Core.Path.{◌≡◌}
use mathlib.Core.Bool.{false}
use Rattle.words.specs.Turn.{in_turn}
use Rattle.rule_ask.specs.Gives.{table_at}
use Rattle.rule_ask.specs.Walk.{table_walk}
use Rattle.rule_test.specs.Keys.{lessened}
use Rattle.rule_test.proofs.of_tables.Given as goal

abbrev pub invariant-loop-table : goal.invariant-loop-table
invariant-loop-table l = l.key ≡ in_turn (λ i. table_walk l.g.file.now l.g.tables l.x (λ v. l.s) (lessened l.x l.s) false (table_at i)) 0 l.table-index l.least
