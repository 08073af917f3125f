-- A sheet that obeys every rule, and the greatest of them.
use Prim.Native.Nat.{ℕ}
use Rattle.model.specs.Machine.{Graph}
use Rattle.model.specs.Rules.{Effects, Sheet, Rule, Under}

module _ (W : Effects) (G : Graph) (step : ℕ → W.Effect) (opening : W.Stock) (T : Sheet W) where
  abbrev pub Obeys : Type 0
  Obeys = (r : ℕ) → Rule W G step opening T r

pub record Greatest (W : Effects) (G : Graph) (step : ℕ → W.Effect) (opening : W.Stock) (T : Sheet W) : Type 1 where
  pub obeys : Obeys W G step opening T
  pub above_all : (U : Sheet W) → Obeys W G step opening U → Under W G U T
