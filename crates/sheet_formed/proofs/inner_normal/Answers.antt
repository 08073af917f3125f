use borrow.Author.Rules.{rules}
use native.Mathlib.Omega.{arith}
use Prim.Native.Nat.{ℕ}
use mathlib.Core.Path.{◌≡◌, refl}
use mathlib.Core.Bool.{true, false}
use Rattle.std.proofs.lemmas.Iterator.{cases_from_all, YieldsList-from_range}
use Rattle.effect_one.specs.Formulas.{normal_one}
use Rattle.sheet.specs.Inner.{one_words}
use Rattle.sheet_formed.proofs.Scan.{all_within}
use Rattle.sheet_formed.proofs.Inner.{normal_is}
use Rattle.sheet_formed.proofs.inner_normal.Goals as goal

pub returns : goal.returns
returns c =
    let a = c.args in
    let yes : ℕ → Type 0 = λ k. normal_one (one_words a.s.now a.w k) ≡ true in
    let no : ℕ → Type 0 = λ k. normal_one (one_words a.s.now a.w k) ≡ false in
    normal_is a.s.now a.t a.w c.requires.0 _
    (all_within yes no a.t _ (cases_from_all _ _ _ yes no c.all.ensures.ran (YieldsList-from_range 0 a.t a.t refl (omega arith)) (λ k q h. search rules) (λ k q h. search rules)))
