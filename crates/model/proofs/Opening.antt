-- What another opening stock does. A sheet that obeys from the one, with its methods' stocks as they are where the one is at most the other,
-- and with nothing elsewhere, obeys from the other. For what rules name for nodes and exits no stock is asked, and what an effect leaves at
-- a coordinate depends on that coordinate alone.
use Prim.Native.Nat.{ℕ, ◌≤◌}
use mathlib.Core.Path.{◌≡◌, subst}
use mathlib.Core.Logic.{◌⊎◌, ⊎_elim}
use native.Mathlib.Omega.{arith}
use Rattle.model.specs.Machine.{Graph}
use Rattle.model.specs.Rules.{Effects, Below, Sheet, after, AskMethod, rule1, rule8}
use Rattle.model.proofs.Setting.{Laws, apply_same}
use Rattle.model.proofs.Greatest.{Obeys}
use Rattle.model.proofs.Alike.{Alike, restocked, rounds, node_ask, exit_ask}

-- at each coordinate `mask` leaves a stock as it is, and o is at most o' there, or leaves nothing
abbrev pub Masks : (W : Effects) → W.Stock → W.Stock → (W.Stock → W.Stock) → Type 0
Masks W o o' mask = (i : W.Coord) → ((W.at i o ≤ W.at i o') × ((s : W.Stock) → W.at i (mask s) ≡ W.at i s)) ⊎ ((s : W.Stock) → W.at i (mask s) ≡ 0)

-- the sheet T with its methods' stocks masked
abbrev pub masked : {W : Effects} → (W.Stock → W.Stock) → Sheet W → Sheet W
masked mask T = restocked T T.Called (λ m. mask (T.stock m))

module _ (W : Effects) (L : Laws W) (G H : Graph) (A : Alike H G) (step : ℕ → W.Effect) (o o' : W.Stock) (T : Sheet W) (O : Obeys W G step o T)
    (mask : W.Stock → W.Stock) (kept : Masks W o o' mask) where
  open W use {Stock, Coord, at, Effect, apply}
  open A use {same_method, same_call, same_calls}

  from_opening : {s : Stock} → Below W s o → Below W (mask s) o'
  from_opening {s} b i = ⊎_elim (λ k. omega (arith, k.0, k.1 s, b i)) (λ z. omega (arith, z s)) (kept i)

  from_call : {s u : Stock} (e : Effect) → Below W s (apply e u) → Below W (mask s) (apply e (mask u))
  from_call {s} {u} e b i = ⊎_elim (λ k. omega (arith, k.1 s, b i, apply_same W L e i (mask u) u (k.1 u))) (λ z. omega (arith, z s)) (kept i)

  method_obeys : {r m : ℕ} {s : Stock} → AskMethod W H step o' (masked mask T) r m s → T.Called m × Below W (mask (T.stock m)) s
  method_obeys rule1 = let b = (O 1).methods_obey rule1 in (b.0, from_opening b.1)
  method_obeys (rule8 {c} {m} k y l j p) =
      let q = same_call c k in
      let e = same_method c q.0 in
      let b = (O 8).methods_obey (rule8 q.1 (y.0, subst T.Called e y.1) (same_calls c m l) j (rounds H G A W step o' o (masked mask T) T.Called T.stock q.0 p)) in
      (b.0, rw e (from_call (after W G step o T c m j) b.1))

  pub masked_obeys : Obeys W H step o' (masked mask T)
  masked_obeys r = record {
    methods_obey = method_obeys;
    nodes_obey = λ a. (O r).nodes_obey (node_ask H G A W step o' o (masked mask T) T.Called T.stock a);
    exits_obey = λ a. (O r).exits_obey (exit_ask H G A W step o' o (masked mask T) T.Called T.stock a);
  }
