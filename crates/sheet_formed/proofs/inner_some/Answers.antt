use borrow.Author.Rules.{rules}
use native.Mathlib.Omega.{arith}
use Prim.Native.Nat.{ℕ, ◌+◌, ◌*◌}
use mathlib.Core.Path.{◌≡◌, refl}
use Rattle.std.proofs.lemmas.Iterator.{cases_from_any, YieldsList-from_range}
use Rattle.words.specs.Four.{four_at}
use Rattle.sheet_formed.proofs.Scan.{any_within}
use Rattle.sheet_formed.proofs.Inner.{some_inner}
use Rattle.sheet_formed.proofs.inner_some.Goals as goal

pub returns : goal.returns
returns c =
    let a = c.args in
    let no : ℕ → Type 0 = λ k. four_at a.s.now (2 * (a.w + (1 + 4 * k))) ≡ 0 in
    let yes : ℕ → Type 0 = λ k. no k → ⊥ in
    some_inner a.s.now a.t a.w c.requires.1 _
    (any_within yes no a.t _ (cases_from_any _ _ _ yes no c.any.ensures.ran (YieldsList-from_range 0 a.t a.t refl (omega arith)) (λ k q h. search rules) (λ k q h. search rules)))
