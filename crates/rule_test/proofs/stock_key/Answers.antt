use Prim.Native.Nat.{min}
use mathlib.Core.Path.{ap, ◌∙◌}
use borrow.Author.Rules.{rules}
use Rattle.rule_ask.specs.Walk.{of_stock}
use Rattle.rule_test.specs.Keys.{lessened}
use Rattle.rule_test.proofs.Keys.{key_within, key_is}
use Rattle.rule_test.proofs.stock_key.Goals as goal

pub key_of-requires : goal.key_of-requires
key_of-requires c =
    let a = c.args in
    key_within a.x a.s.now (of_stock a.rule a.w a.h) _ (λ k p. search rules) _ c.then-fails.ensures.some

pub returns : goal.returns
unfolding lessened
returns c =
    let a = c.args in
    c.min.ensures
    ∙ ap (min a.least) (c.key_of.ensures ∙ key_is a.x a.s.now (of_stock a.rule a.w a.h) _ (λ k p. search rules) _ c.then-fails.ensures.some (c.then-fails.ensures.variant ∙ c.is_marked.ensures))
