use borrow.Author.Rules.{rules}
use Prim.Native.Nat.{ℕ}
use mathlib.Core.Path.{◌≡◌, ◌∙◌}
use mathlib.Core.Bool.{Bool, true, false, not}
use Rattle.std.proofs.lemmas.Iterator.{first_from_Range}
use Rattle.sheet_compare.proofs.Compare.{under_at, step_find}
use Rattle.sheet_compare.proofs.stepped_fails.Goals as goal

pub returns : goal.returns
returns c =
    let a = c.args in
    let p : ℕ → Bool = λ k. not (under_at a.s.now a.v a.w a.n a.y k) in
    c.unwrap_or.ensures
    ∙ step_find a.s.now a.t a.v a.w a.n a.y c.requires.0 c.requires.1 _
    (first_from_Range _ _ _ _ (λ k. p k ≡ true) (λ k. p k ≡ false) c.find.ensures.ran (λ x q k. search rules) (λ x q k. search rules))
