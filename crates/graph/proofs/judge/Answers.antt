use lib.Dec.{lit<}
use borrow.Author.Tests.{lt-ltb, le-ltb}
use mathlib.Core.Path.{◌∙◌}
use Rattle.graph_scan.proofs.Stops.{stops, refuses}
use Rattle.graph.specs.Judge.{judge_in}
use Rattle.graph.proofs.judge.Goals as goal

pub returns-then-g-lt14 : goal.returns-then-g-lt14
unfolding judge_in
returns-then-g-lt14 c = record { first = simp (lt-ltb _ _ c.if-g-lt14.true); refusal = lit< tt }

pub returns-in_err-pass_table : goal.returns-in_err-pass_table
unfolding judge_in
returns-in_err-pass_table c =
    record {
      first = simp (le-ltb _ _ c.if-g-lt14.false) (c.in_err-pass_table.ensures.first _ ∙ stops c.from_residual.result _ c.from_residual.ensures.1);
      refusal = refuses c.from_residual.result _ c.from_residual.ensures.1 c.in_err-pass_table.ensures.refusal;
    }

pub returns-then-length_bad : goal.returns-then-length_bad
unfolding judge_in
returns-then-length_bad c =
    record {
      first = simp (le-ltb _ _ c.if-g-lt14.false, ← c.length_bad.ensures, c.if-length_bad.true) (c.in_ok-pass_table.ensures.first _);
      refusal = lit< tt;
    }

pub returns : goal.returns
unfolding judge_in
returns c =
    record {
      first = simp (le-ltb _ _ c.if-g-lt14.false, ← c.length_bad.ensures, c.if-length_bad.false) (c.in_ok-pass_table.ensures.first _ ∙ c.judge_rows.ensures.first);
      refusal = c.judge_rows.ensures.refusal;
    }
