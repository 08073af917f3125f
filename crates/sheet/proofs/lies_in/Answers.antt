use Prim.Native.Nat.{◌+◌, ◌-◌, ◌*◌, ◌/◌, ◌≤◌}
use mathlib.Core.Path.{refl}
use mathlib.Core.Bool.{false≢true}
use lib.ListN.{length}
use lib.Dec.{leb}
use borrow.Author.Tests.{leb-true, le-leb}
use native.Mathlib.Nat.{mul-le-mul}
use native.Mathlib.Omega.{arith}
use Rattle.words.proofs.Tests.{and_l, and_r}
use borrow.Author.Rules.{rules}
use Rattle.sheet.proofs.lies_in.Goals as goal

-- how many words there are at most
many : (c : goal.Else-have-w) → let a = c.args in a.n * a.t ≤ 4 * 65535
many c = mul-le-mul {n₂ = 4} {m₂ = 65535} c.requires (search rules)

pub returns-then-have-w : goal.returns-then-have-w
returns-then-have-w c = (λ h. absurd (false≢true h), λ h. absurd (omega (arith, c.if-have-w.true, h.1)))

pub returns : goal.returns
returns c =
    let a = c.args in (
      λ h.
          let few : a.t ≤ 6 = leb-true _ _ (and_l _ _ h) in
          let room : 1 + a.n * a.t ≤ length a.s.now / 2 - a.w = leb-true _ _ (and_r (leb a.t 6) _ h) in
          (few, omega (arith, c.if-have-w.false)),
      λ h.
          let room : 1 + a.n * a.t ≤ length a.s.now / 2 - a.w = omega (arith, c.if-have-w.false, h.1) in
          rw (le-leb a.t 6 h.0, le-leb (1 + a.n * a.t) (length a.s.now / 2 - a.w) room) refl,
    )
