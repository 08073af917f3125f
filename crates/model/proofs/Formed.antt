-- What a file that is not refused ensures of its graph.
use mathlib.Core.Path.{◌≡◌}
use Prim.Native.Nat.{ℕ, ◌<◌}
use Rattle.model.specs.Machine.{Graph}

pub record Formed (G : Graph) : Type 0 where
  pub first_method : 0 < G.methods
  pub node_inside : (n : ℕ) → n < G.nodes → G.method n < G.methods
  pub entry_inside : (m : ℕ) → m < G.methods → (G.entry m < G.nodes) × (G.method (G.entry m) ≡ m)
  pub flow_inside : (a b : ℕ) → G.Flow a b → (a < G.nodes) × (b < G.nodes) × (G.method a ≡ G.method b)
  pub flow_leaves : (a b : ℕ) → G.Flow a b → ((G.Return a → ⊥) × ((e : ℕ) → G.Throw a e → ⊥))
  pub catch_inside : (a e b : ℕ) → G.Catch a e b → (a < G.nodes) × (b < G.nodes) × (G.method a ≡ G.method b)
  pub calls_inside : (c m : ℕ) → G.Calls c m → G.Call c × (m < G.methods)
  pub call_has_row : (c : ℕ) → G.Call c → (m : ℕ) × G.Calls c m
  pub some_repeats : (c : ℕ) → G.Call c → 0 < G.repeats c
  pub eight_exceptions : (n e : ℕ) → G.Throw n e → e < 8
