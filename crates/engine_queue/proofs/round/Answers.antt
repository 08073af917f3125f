use Rattle.engine_queue.proofs.Moves.{spread_kept, round_done}
use Rattle.engine_queue.proofs.round.Goals as goal

pub pass-requires : goal.pass-requires
pass-requires c = spread_kept c.requires c.spread.ensures

pub returns : goal.returns
returns c = round_done c.args.backwards c.pass.result c.requires c.spread.ensures c.pass.ensures
