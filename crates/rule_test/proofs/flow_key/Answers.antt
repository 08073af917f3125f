use Prim.Native.Nat.{min}
use mathlib.Core.Path.{sym, ap, ◌∙◌}
use Rattle.std.specs.declared.option.Option.TheVariants.{None, Some}
use Rattle.rule_ask.specs.Gives.{stepped_in}
use Rattle.rule_ask.specs.Walk.{of_effect}
use Rattle.rule_test.specs.Keys.{lessened}
use Rattle.rule_test.proofs.Keys.{key_within, key_is}
use Rattle.rule_test.proofs.flow_key.Goals as goal

pub key_of-requires : goal.key_of-requires
key_of-requires c =
    let a = c.args in
    let asked = of_effect 3 a.w (stepped_in a.g.now.file.now a.g.now.tables a.x a.s.now a.n) in
    key_within a.x a.s.now asked _ (λ k p. p) (Some c.stepped_fails-fails.result) c.stepped_fails-fails.ensures

pub returns-then-is_marked : goal.returns-then-is_marked
unfolding lessened
returns-then-is_marked c =
    let a = c.args in
    let asked = of_effect 3 a.w (stepped_in a.g.now.file.now a.g.now.tables a.x a.s.now a.n) in
    let key = key_is a.x a.s.now asked _ (λ k p. p) (Some c.stepped_fails-fails.result) c.stepped_fails-fails.ensures (sym c.if-is_marked.true ∙ c.is_marked.ensures) in
    c.min.ensures ∙ ap (min a.least) (c.key_of.ensures ∙ key)

pub returns : goal.returns
unfolding lessened
returns c =
    let a = c.args in
    let asked = of_effect 3 a.w (stepped_in a.g.now.file.now a.g.now.tables a.x a.s.now a.n) in
    let key = key_is a.x a.s.now asked _ (λ k p. p) None tt (sym c.if-is_marked.false ∙ c.is_marked.ensures) in
    c.min-2.ensures ∙ ap (min a.least) (c.key_of-2.ensures ∙ key)
