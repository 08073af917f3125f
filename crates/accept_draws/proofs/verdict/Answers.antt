use mathlib.Core.Path.{◌≡◌, ◌∙◌}
use mathlib.Core.Bool.{true, false}
use borrow.Author.Rules.{rules}
use borrow.Author.Tests.{lt-ltb, le-ltb}
use native.Mathlib.Nat.{le_refl}
use Rattle.std.proofs.lemmas.Iterator.{first_from_Range}
use Rattle.words.proofs.Lowest.{lowest_is, lowest_none}
use Rattle.accept_draws.specs.Draws.{uncovered_at}
use Rattle.accept_draws.proofs.verdict.Goals as goal

pub returns-in-Some : goal.returns-in-Some
returns-in-Some c =
    let a = c.args in
    let q = uncovered_at a.g.now.file.now a.g.now.tables a.x a.s.now in
    let w = rw c.in-Some.is at (first_from_Range _ _ _ _ (λ k. q k ≡ true) (λ k. q k ≡ false) c.find.ensures.ran (λ x q k. search rules) (λ x q k. search rules)) in
    let e = lowest_is q a.g.now.tables.nodes c.in-Some.n (λ k l. w.3 k (search rules) l) w.1 w.2 in
    c.overdrawn_at.ensures ∙ simp (e, lt-ltb _ _ w.1)

pub returns-in-None : goal.returns-in-None
returns-in-None c =
    let a = c.args in
    let q = uncovered_at a.g.now.file.now a.g.now.tables a.x a.s.now in
    let w = rw c.in-None.is at (first_from_Range _ _ _ _ (λ k. q k ≡ true) (λ k. q k ≡ false) c.find.ensures.ran (λ x q k. search rules) (λ x q k. search rules)) in
    let e = lowest_none q a.g.now.tables.nodes (λ k l. w k (search rules) l) in
    simp (e, le-ltb _ _ (le_refl a.g.now.tables.nodes))
