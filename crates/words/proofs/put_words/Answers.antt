use mathlib.Core.Path.{refl}
use Rattle.words.proofs.Fill.{fill_start, fill_turn, fill_end}
use Rattle.words.proofs.put_words.Goals as goal

pub loop-k-init : goal.loop-k-init
loop-k-init c = fill_start _ _ _ c.requires

pub loop-k-preserved : goal.loop-k-preserved
loop-k-preserved c = fill_turn c.loop-k.invariant c.loop-k-test.true refl c.put_word.ensures

pub returns : goal.returns
returns c = fill_end c.loop-k.invariant c.loop-k-test.false
