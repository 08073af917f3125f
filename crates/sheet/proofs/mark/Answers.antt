use mathlib.Core.Path.{ap, ◌∙◌}
use native.Mathlib.Omega.{arith}
use Rattle.sheet.specs.Read.{sheet_word}
use Rattle.sheet.proofs.mark.Goals as goal

pub returns : goal.returns
returns c = c.word.ensures ∙ ap (sheet_word _) (omega arith)
