use borrow.Author.Rules.{rules}
use native.Mathlib.Omega.{arith}
use Prim.Native.Nat.{ℕ}
use mathlib.Core.Path.{◌≡◌, refl}
use mathlib.Core.Bool.{true, false}
use Rattle.std.proofs.lemmas.Iterator.{cases_from_any, YieldsList-from_range}
use Rattle.sheet_formed.specs.Ill.{not_zero}
use Rattle.sheet_formed.proofs.Scan.{any_within, some_is}
use Rattle.sheet_formed.proofs.some_word.Goals as goal

pub returns : goal.returns
returns c =
    let a = c.args in
    let yes : ℕ → Type 0 = λ k. not_zero a.s.now a.w k ≡ true in
    let no : ℕ → Type 0 = λ k. not_zero a.s.now a.w k ≡ false in
    some_is a.s.now a.w a.n _
    (any_within yes no a.n _ (cases_from_any _ _ _ yes no c.any.ensures.ran (YieldsList-from_range 0 a.n a.n refl (omega arith)) (λ k q h. search rules) (λ k q h. search rules)))
