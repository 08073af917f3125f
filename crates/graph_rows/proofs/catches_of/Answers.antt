use Prim.Native.Nat.{ℕ}
use mathlib.Core.Path.{◌≡◌, refl, sym, ap, ◌∙◌}
use mathlib.Core.Bool.{Bool, not}
use mathlib.Core.List.{List}
use Rattle.graph_tables.specs.declared.Tables.{Tables}
use Rattle.graph_tables.proofs.Family.{nearest_here, nearest_up, nearest_last}
use Rattle.graph_rows.specs.declared.Stretch.{Stretch}
use Rattle.graph_rows.specs.Rows.{own_of, no_rows, has_own}
use Rattle.graph_rows.proofs.catches_of.Goals as goal

-- whether the kind has rows is whether its stretch has
found : (f : List ℕ) (t : Tables) (n kind : ℕ) {s : Stretch} {none b : Bool} → s ≡ own_of f t n kind → none ≡ no_rows s → none ≡ b → has_own f t n kind ≡ not b
unfolding has_own
found f t n kind p q r = ap not (ap no_rows (sym p) ∙ sym q ∙ r)

pub loop-parent-init : goal.loop-parent-init
loop-parent-init c = (c.own_of-own.ensures, refl)

pub returns-then-kind-parent : goal.returns-then-kind-parent
returns-then-kind-parent c =
    let a = c.args in
    let last = nearest_last a.g.now.file.now a.g.now.tables (has_own a.g.now.file.now a.g.now.tables a.n) c.loop-parent.kind (rw (← c.parent-parent.ensures.0) c.if-kind-parent.true) in
    c.loop-parent.invariant.0 ∙ ap (own_of a.g.now.file.now a.g.now.tables a.n) (sym (c.loop-parent.invariant.1 ∙ last))

pub loop-parent-preserved : goal.loop-parent-preserved
loop-parent-preserved c =
    let a = c.args in
    let f = a.g.now.file.now in
    let empty = found f a.g.now.tables a.n c.loop-parent.kind c.loop-parent.invariant.0 c.no_rows.ensures c.loop-parent-test.true in
    let up = nearest_up f a.g.now.tables (has_own f a.g.now.tables a.n) c.loop-parent.kind empty (rw (← c.parent-parent.ensures.0) c.if-kind-parent.false) in
    (c.own_of-own-in-loop-parent.ensures, c.loop-parent.invariant.1 ∙ rw c.parent-parent.ensures.0 up)

pub returns : goal.returns
returns c =
    let a = c.args in
    let f = a.g.now.file.now in
    let some = found f a.g.now.tables a.n c.loop-parent.kind c.loop-parent.invariant.0 c.no_rows.ensures c.loop-parent-test.false in
    c.loop-parent.invariant.0 ∙ ap (own_of f a.g.now.tables a.n) (sym (c.loop-parent.invariant.1 ∙ nearest_here f a.g.now.tables (has_own f a.g.now.tables a.n) c.loop-parent.kind some))
