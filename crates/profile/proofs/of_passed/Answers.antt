use mathlib.Core.Path.{sym, subst}
use Rattle.profile.specs.Profile.{Profiled}
use Rattle.profile.specs.Breaks.{Breaks}
use Rattle.profile.proofs.Breaks.{unfit_at_lem, fits_all}
use Rattle.profile.proofs.of_passed.Goals as goal

pub returns-then-n-g : goal.returns-then-n-g
returns-then-n-g c =
    let a = c.args in
    let p = a.p.now in
    let f = p.graph.file.now in
    subst (Profiled f (Breaks f a.profile)) (sym c.unfit_at.ensures)
    (unfit_at_lem f p.passes a.profile p.graph.tables c.breaking-n.result p.tables_are c.breaking-n.ensures c.if-n-g.true)

pub returns : goal.returns
returns c =
    let a = c.args in
    let p = a.p.now in
    fits_all p.graph.file.now p.passes a.profile p.graph.tables c.breaking-n.result p.tables_are c.breaking-n.ensures c.if-n-g.false
