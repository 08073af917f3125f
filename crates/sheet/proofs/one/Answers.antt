use Rattle.sheet.specs.Read.{column, effect_at}
use Rattle.sheet.proofs.Back.{six_there}
use Rattle.sheet.proofs.one.Goals as goal

pub returns : goal.returns
unfolding effect_at
returns c =
    let a = c.args in
    let l = c.requires in
    λ i. record {
      keepin = six_there (column a.s.now a.t a.w 4 1 0) a.k l c.field.ensures i;
      keepmax = six_there (column a.s.now a.t a.w 4 2 65535) a.k l c.field-2.ensures i;
      cap = six_there (column a.s.now a.t a.w 4 3 255) a.k l c.field-3.ensures i;
      drop = six_there (column a.s.now a.t a.w 4 4 0) a.k l c.field-4.ensures i;
    }
