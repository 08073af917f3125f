use mathlib.Core.Path.{◌∙◌}
use borrow.Author.Rules.{rules}
use Rattle.sheet_compare.proofs.Compare.{step_at, step_all}
use Rattle.sheet_compare.proofs.stepped.Goals as goal

pub returns : goal.returns
returns c =
    let a = c.args in
    c.effect_from_fn.ensures (step_at a.s.now a.w a.n a.y) (λ k x l q. search rules) ∙ step_all a.s.now a.t a.w a.w a.n a.y c.requires.0 c.requires.1
