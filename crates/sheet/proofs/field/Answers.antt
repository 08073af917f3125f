use Prim.Native.Nat.{◌*◌, ◌≤◌}
use borrow.Author.Tests.{lt-ltb, le-ltb}
use native.Mathlib.Nat.{mul-le-mul}
use native.Mathlib.Omega.{arith}
use Rattle.sheet.proofs.field.Goals as goal

-- how far into the block it goes
far : (c : goal.Then-k-t) → let a = c.args in a.n * a.k ≤ 4 * 5
far c = let a = c.args in let p = c.requires in mul-le-mul {n₂ = 4} {m₂ = 5} p.0 (omega (arith, p.2))

pub overflow_mul-n : goal.overflow_mul-n
overflow_mul-n c = omega (arith, far c)

pub overflow_add-j : goal.overflow_add-j
overflow_add-j c = omega (arith, far c, c.requires.1)

pub word-requires : goal.word-requires
word-requires c = omega (arith, far c, c.requires.1)

pub returns-then-k-t : goal.returns-then-k-t
returns-then-k-t c = rw (lt-ltb _ _ c.if-k-t.true) c.word.ensures

pub returns : goal.returns
returns c = rw (le-ltb _ _ c.if-k-t.false)
