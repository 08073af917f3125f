use lib.Dec.{lit<}
use borrow.Author.Tests.{lt-ltb, le-ltb}
use mathlib.Core.Path.{refl, sym, ◌∙◌}
use Rattle.graph_scan.specs.Scan.{judge_tables}
use Rattle.graph_scan.proofs.Stops.{stops, refuses}
use Rattle.graph.specs.Judge.{judge_rows}
use Rattle.graph.proofs.Stages.{first_sorted}
use Rattle.graph.proofs.judge_rows.Goals as goal

pub returns-in_err-pass_tables : goal.returns-in_err-pass_tables
unfolding judge_rows judge_tables
returns-in_err-pass_tables c =
    record {
      first = c.in_err-pass_tables.ensures.first _ ∙ stops c.from_residual.result _ c.from_residual.ensures.1;
      refusal = refuses c.from_residual.result _ c.from_residual.ensures.1 c.in_err-pass_tables.ensures.refusal;
    }

pub lowest_uncalled-n-requires : goal.lowest_uncalled-n-requires
lowest_uncalled-n-requires c = first_sorted _ _ (sym (c.in_ok-pass_tables.ensures.first _)) refl

pub returns-then-n-g : goal.returns-then-n-g
unfolding judge_rows judge_tables
returns-then-n-g c =
    record {
      first = c.in_ok-pass_tables.ensures.first _ ∙ rw (← c.lowest_uncalled-n.ensures, lt-ltb _ _ c.if-n-g.true) (sym c.no_call_row_at.ensures);
      refusal = rw c.no_call_row_at.ensures (lit< tt);
    }

pub returns : goal.returns
unfolding judge_rows judge_tables
returns c =
    record {
      first = c.in_ok-pass_tables.ensures.first _ ∙ rw (← c.lowest_uncalled-n.ensures, le-ltb _ _ c.if-n-g.false) (c.pass_table.ensures.first _);
      refusal = c.pass_table.ensures.refusal;
    }
