use mathlib.Core.Path.{sym, ap, ◌∙◌}
use lib.ListN.{replicate}
use Rattle.engine_queue.proofs.Moves.{all_wait, quiet_settled}
use Rattle.engine_queue.proofs.settle.Goals as goal

pub loop-x-init : goal.loop-x-init
loop-x-init c = all_wait c.enter.ensures c.wake_nodes.ensures.0 c.wake_nodes.ensures.1

pub returns : goal.returns
returns c =
    let done = c.round.ensures in
    (quiet_settled done.queue (done.quiet c.loop-x-test.false), c.blank.ensures ∙ ap (λ n. replicate n 0) (done.queue.wide ∙ sym c.requires.1))
