use mathlib.Core.Path.{sym, ap, ◌∙◌}
use borrow.Author.Tests.{lt-ltb, le-ltb}
use Rattle.effect_one.specs.Single.{apply_one}
use Rattle.effect_one.specs.Formulas.{covers_held}
use Rattle.effect.specs.Six.{held_at, one_at}
use Rattle.effect.specs.Whole.{covers_of}
use Rattle.effect.proofs.Laws.{applied_at}
use Rattle.graph_tables.specs.Fields.{node_method}
use Rattle.sheet_layout.specs.Layout.{method_at, node_at}
use Rattle.sheet.specs.Read.{effect_at, stock_at}
use Rattle.reach.proofs.covers.Goals as goal

pub returns-then-k-lt6 : goal.returns-then-k-lt6
unfolding covers_of
returns-then-k-lt6 c =
    let a = c.args in
    let w = c.node_at-at.ensures in
    let v = c.method_at-from.ensures ∙ ap (method_at a.x) c.node_method.ensures.0 in
    let p = c.one.ensures ∙ ap (λ j. one_at (effect_at a.s.now a.x.types j) a.k) w in
    let q = c.held.ensures ∙ ap (λ j. held_at (stock_at a.s.now a.x.types j) a.k) v in
    c.covers.ensures
    ∙ ap (λ h. covers_held h a.rights) (c.apply-held.ensures ∙ (λ i. apply_one (p i) (q i)) ∙ sym (applied_at (effect_at a.s.now a.x.types (node_at a.x a.n)) (stock_at a.s.now a.x.types (method_at a.x (node_method a.g.now.file.now a.g.now.tables a.n))) a.k c.if-k-lt6.true))
    ∙ simp (lt-ltb a.k 6 c.if-k-lt6.true)

pub returns : goal.returns
unfolding covers_of
returns c = simp (le-ltb c.args.k 6 c.if-k-lt6.false)
