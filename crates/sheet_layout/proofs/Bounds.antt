-- The products of the layout fit 64 bits, and under the limits of a graph file they are small.
use Prim.Native.Nat.{ℕ, ◌+◌, ◌*◌, ◌≤◌, ◌<◌}
use native.Mathlib.Nat.{mul-le-mul}
use native.Mathlib.Omega.{arith}
use Rattle.sheet_layout.specs.declared.Shape.{Shape}
use Rattle.sheet_layout.specs.Layout.{Within, method_at, exit_at, node_at, sheet_words}

product_lt : {a b : ℕ} → a < 4294967296 → b < 4194304 → a * b < 18014398509481984
product_lt {a} {b} h k =
    let p : a * b ≤ 4294967295 * 4194303 = mul-le-mul {n₂ = 4294967295} {m₂ = 4194303} (omega arith) (omega arith) in
    omega arith

module _ (x : Shape) (t : x.types < 65536) where
  pub methods_lt : (m : ℕ) → m < 65536 → m * (10 + 38 * x.types) < 18014398509481984
  methods_lt m h = product_lt (omega arith) (omega arith)

  pub effects_lt : (n : ℕ) → n < 4294967296 → n * (1 + 4 * x.types) < 18014398509481984
  effects_lt n h = product_lt h (omega arith)

  pub method_lt : (m : ℕ) → m < 65536 → method_at x m < 18014398509481984
  unfolding method_at
  method_lt = methods_lt

  pub exit_lt : (m e : ℕ) → m < 65536 → e < 65536 → exit_at x m e < 72057594037927936
  unfolding exit_at
  exit_lt m e h k = omega (arith, t, method_lt m h, effects_lt e (omega arith))

  pub node_lt : (n : ℕ) → x.methods < 65536 → n < 65536 → node_at x n < 36028797018963968
  unfolding node_at
  node_lt n m h = omega (arith, method_lt x.methods m, effects_lt n (omega arith))

-- "at most 28,032"
pub sheet_le : {x : Shape} → Within x → sheet_words x ≤ 28032
unfolding sheet_words
sheet_le {x} w =
    let m : x.methods * (10 + 38 * x.types) ≤ 64 * 238 = mul-le-mul {n₂ = 64} {m₂ = 238} w.few_methods (omega (arith, w.few_types)) in
    let n : x.nodes * (1 + 4 * x.types) ≤ 512 * 25 = mul-le-mul {n₂ = 512} {m₂ = 25} w.few_nodes (omega (arith, w.few_types)) in
    omega arith
