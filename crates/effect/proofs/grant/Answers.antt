use Rattle.effect.specs.Whole.{grant_of}
use Rattle.effect.proofs.Laws.{grant_normal}
use Rattle.effect.proofs.Coordinate.{apply_grant}
use Rattle.effect.proofs.Means.{leaves}
use Rattle.effect.proofs.grant.Goals as goal

pub returns : goal.returns
unfolding grant_of
returns c =
    let a = c.args in
    let all = leaves _ (grant_normal a.t a.rights a.count) (apply_grant a.t a.rights a.count) (simp (c.grant.ensures, c.only.ensures)) in
    record { equals = all.0; means = all.1 }
