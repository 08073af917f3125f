-- The tables that are walked, one by one, are those of the walk.
use Prim.Native.Nat.{ℕ, zero, suc, ◌<◌}
use mathlib.Core.Path.{◌≡◌, refl}
use native.Mathlib.Omega.{arith}
use Rattle.std.specs.Prelude.{get_or}
use Rattle.graph_tables.specs.declared.Table.{Table}
use Rattle.rule_ask.specs.declared.TheConstants.{TABLES}
use Rattle.rule_ask.specs.Gives.{table_at}

pub table_is : (d : Table) (i : ℕ) → i < 4 → get_or TABLES i d ≡ table_at i
table_is d zero l = refl
table_is d (suc zero) l = refl
table_is d (suc (suc zero)) l = refl
table_is d (suc (suc (suc zero))) l = refl
table_is d (suc (suc (suc (suc i)))) l = absurd (omega arith)
