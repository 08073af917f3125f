use Rattle.effect.specs.Whole.{draw_of}
use Rattle.effect.proofs.Laws.{draw_normal}
use Rattle.effect.proofs.Coordinate.{apply_draw}
use Rattle.effect.proofs.Means.{leaves}
use Rattle.effect.proofs.draw.Goals as goal

pub returns : goal.returns
unfolding draw_of
returns c =
    let a = c.args in
    let all = leaves _ (draw_normal a.t) (apply_draw a.t) (simp (c.draw.ensures, c.only.ensures)) in
    record { equals = all.0; means = all.1 }
