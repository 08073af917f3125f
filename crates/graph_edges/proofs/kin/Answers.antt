use Prim.Native.Nat.{ℕ}
use mathlib.Core.Path.{refl, sym, ◌∙◌}
use mathlib.Core.Bool.{Bool}
use lib.Dec.{eqb}
use borrow.Author.Tests.{eq-eqb, ne_eqb}
use Rattle.graph_tables.proofs.Family.{nearest_here, nearest_up, nearest_last}
use Rattle.graph_refuse.specs.Bad.{kin}
use Rattle.graph_edges.proofs.kin.Goals as goal

abbrev is : ℕ → ℕ → Bool
is c a = eqb a c

pub loop-kind-init : goal.loop-kind-init
loop-kind-init c = refl

pub returns-then-kind-parent : goal.returns-then-kind-parent
unfolding kin
returns-then-kind-parent c =
    let a = c.args in
    let other = ne_eqb c.loop-kind.kind a.c c.loop-kind-test.true in
    let last = nearest_last a.g.now.file.now a.g.now.tables (is a.c) c.loop-kind.kind (rw (← c.parent-parent.ensures.0) c.if-kind-parent.true) in
    rw (c.loop-kind.invariant, last) (sym other)

pub loop-kind-preserved : goal.loop-kind-preserved
loop-kind-preserved c =
    let a = c.args in
    let other = ne_eqb c.loop-kind.kind a.c c.loop-kind-test.true in
    c.loop-kind.invariant ∙ rw c.parent-parent.ensures.0 (nearest_up a.g.now.file.now a.g.now.tables (is a.c) c.loop-kind.kind other (rw (← c.parent-parent.ensures.0) c.if-kind-parent.false))

pub returns : goal.returns
unfolding kin
returns c =
    let a = c.args in
    let same = eq-eqb c.loop-kind.kind a.c c.loop-kind-test.false in
    rw (c.loop-kind.invariant, nearest_here a.g.now.file.now a.g.now.tables (is a.c) c.loop-kind.kind same) (sym same)
