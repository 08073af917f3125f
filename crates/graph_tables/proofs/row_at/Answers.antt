use Prim.Native.Nat.{ℕ, ◌*◌, ◌≤◌}
use mathlib.Core.Path.{refl}
use native.Mathlib.Nat.{mul-le-mul}
use native.Mathlib.Omega.{arith}
use Rattle.graph_tables.proofs.row_at.Goals as goal

product : (a b : ℕ) → a ≤ 65535 → b ≤ 65535 → a * b ≤ 65535 * 65535
product a b p q = mul-le-mul p q

pub overflow_mul-result : goal.overflow_mul-result
overflow_mul-result c = omega (arith, product c.args.width c.args.k (omega arith) (omega arith))

pub overflow_add-result : goal.overflow_add-result
overflow_add-result c = omega (arith, product c.args.width c.args.k (omega arith) (omega arith))

pub returns : goal.returns
returns c = (refl, omega (arith, product c.args.width c.args.k (omega arith) (omega arith)))
