-- What check answers, computed: the first that applies.
use Rattle.std.specs.Prelude.{ℕ, ◌/◌, ◌%◌, cond, List, length, ltb, eqb}
use Rattle.answer.specs.declared.Answer.{Answer}
use Rattle.answer.specs.declared.Answer.TheVariants.{BadSheet, BadBlock, Broken}
use Rattle.answer.specs.Number.{number_of}
use Rattle.graph_tables.specs.declared.Tables.{Tables}
use Rattle.graph_tables.specs.Trailer.{tables_of}
use Rattle.graph.specs.Judge.{judge_of}
use Rattle.graph.specs.Judgement.{shape_of}
use Rattle.sheet_layout.specs.declared.Shape.{Shape}
use Rattle.sheet_layout.specs.Layout.{block_count, block_at, sheet_bytes}
use Rattle.sheet_formed.specs.Ill.{first_ill}
use Rattle.rule_test.specs.Keys.{no_key, least_key}
use Rattle.accept_draws.specs.Draws.{verdict_of}

-- 12 a sheet rule is broken: the rule and the type that the least key names; else the verdict
unfoldable pub whole_sheet : List ℕ → Tables → Shape → List ℕ → Answer
whole_sheet f t x s =
    cond (ltb (least_key f t x s) no_key) (Broken (least_key f t x s / 8) (least_key f t x s % 8)) (verdict_of f t x s)

-- 10 the sheet's length is wrong, 11 a sheet block is ill formed
unfoldable pub judged_sheet : List ℕ → Tables → Shape → List ℕ → Answer
judged_sheet f t x s =
    cond (eqb (length s) (sheet_bytes x)) (cond (ltb (first_ill s x) (block_count x)) (BadBlock (block_at x (first_ill s x))) (whole_sheet f t x s)) BadSheet

-- 1 to 9, 15 and 17 of the file, then 10 to 13 and 0
unfoldable pub check_of : List ℕ → List ℕ → Answer
check_of f s = cond (eqb (number_of (judge_of f)) 0) (judged_sheet f (tables_of f) (shape_of (tables_of f)) s) (judge_of f)
