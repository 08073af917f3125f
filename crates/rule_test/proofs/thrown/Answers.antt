use Prim.Native.Nat.{◌+◌}
use mathlib.Core.Path.{◌≡◌, sym, ap, ◌∙◌}
use mathlib.Core.Bool.{true, false}
use Rattle.sheet_layout.specs.Layout.{exit_at}
use Rattle.sheet.specs.Read.{marked}
use Rattle.rule_ask.specs.Walk.{leaving_walk, thrown_walk}
use Rattle.rule_test.specs.Keys.{lessened}
use Rattle.rule_test.proofs.thrown.Goals as goal

pub returns-then-is_marked : goal.returns-then-is_marked
unfolding thrown_walk
returns-then-is_marked c =
    let a = c.args in
    let m : marked a.s.now (exit_at a.x a.c.method (1 + a.e)) ≡ true = ap (marked a.s.now) (sym c.exit_at.ensures) ∙ sym c.is_marked.ensures ∙ c.if-is_marked.true in
    c.leaving.ensures
    ∙ ap (λ y. leaving_walk a.g.now.file.now a.g.now.tables a.x (λ v. a.s.now) (lessened a.x a.s.now) 9 10 a.c.node a.e y a.least) c.thrown-y.ensures
    ∙ simp m

pub returns : goal.returns
unfolding thrown_walk
returns c =
    let a = c.args in
    let m : marked a.s.now (exit_at a.x a.c.method (1 + a.e)) ≡ false = ap (marked a.s.now) (sym c.exit_at.ensures) ∙ sym c.is_marked.ensures ∙ c.if-is_marked.false in
    simp m
