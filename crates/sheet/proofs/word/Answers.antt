use mathlib.Core.Path.{sym}
use Rattle.words.proofs.Read.{word_past}
use borrow.Author.Rules.{rules}
use Rattle.sheet.proofs.word.Goals as goal

pub returns-then-s-w : goal.returns-then-s-w
returns-then-s-w c = sym (word_past _ _ (search rules))
