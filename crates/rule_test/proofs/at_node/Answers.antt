use mathlib.Core.Path.{◌≡◌, sym, ap, ◌∙◌}
use mathlib.Core.Bool.{true, false}
use Rattle.sheet_layout.specs.Layout.{node_at}
use Rattle.sheet.specs.Read.{marked}
use Rattle.rule_ask.specs.Walk.{end_walk, node_walk}
use Rattle.rule_ask.proofs.Quiet.{quiet}
use Rattle.rule_test.specs.Keys.{lessened}
use Rattle.rule_test.proofs.at_node.Goals.{else-ends-via-then-ends+else-is_marked, else-ends-via-else-ends}
use Rattle.rule_test.proofs.at_node.Goals as goal

pub returns-then-is_marked : goal.returns-then-is_marked
unfolding node_walk
returns-then-is_marked c =
    let a = c.args in
    let m : marked a.s.now (node_at a.x a.n) ≡ true = ap (marked a.s.now) (sym c.node_at.ensures) ∙ sym c.is_marked.ensures ∙ c.if-is_marked.true in
    c.at_end.ensures ∙ ap (λ y. end_walk a.g.now.file.now a.g.now.tables a.x (λ v. a.s.now) (lessened a.x a.s.now) a.n y a.least) c.node_effect.ensures ∙ simp m

pub returns : goal.returns
unfolding node_walk
returns c =
    let a = c.args in
    elim c.else-ends.branch [
      | else-ends-via-then-ends+else-is_marked w ↦
          let m : marked a.s.now (node_at a.x a.n) ≡ false = ap (marked a.s.now) (sym w.node_at.ensures) ∙ sym w.is_marked.ensures ∙ w.if-is_marked.false in
          simp m
      | else-ends-via-else-ends w ↦
          quiet a.g.now.file.now a.g.now.tables a.x (λ v. a.s.now) (lessened a.x a.s.now) a.n (sym c.ends.ensures ∙ w.if-ends.false) a.least
    ]
