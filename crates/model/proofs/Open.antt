-- Every call that is open in a run is one: its node is a call, and the method that it entered exists.
use mathlib.Core.List.{List, [], ◌∷◌}
use Prim.Native.Nat.{ℕ, ◌<◌}
use Rattle.model.specs.Machine.{Graph, Doing, Frame, frame, Config, At, Out, Step, along, enter, again, back, caught, leaves, handled, passes, Steps, stay, more, Run}
use Rattle.model.proofs.Formed.{Formed}

-- the call c entered m
pub record Awaits (G : Graph) (c m : ℕ) : Type 0 where
  pub is_call : G.Call c
  pub exists : m < G.methods

-- each of the open calls is so
abbrev pub Opened : Graph → List Frame → Type 0
Opened G [] = Unit {0}
Opened G (frame c m k ∷ σ) = Awaits G c m × Opened G σ

abbrev pub Open : {Stock : Type 0} → Graph → Config Stock → Type 0
Open G (At n σ s) = Opened G σ
Open G (Out e σ s) = Opened G σ

module _ {Stock : Type 0} (G : Graph) (F : Formed G) (D : Doing Stock) where
  open F use {calls_inside}

  pub open_step : {a b : Config Stock} → Step G D a b → Open G a → Open G b
  open_step (along g f) o = o
  open_step (enter {c} {m} ca l) o = (record { is_call = ca; exists = (calls_inside c m l).1 }, o)
  open_step (again r h) o = o
  open_step (back r f) o = o.1
  open_step (caught t c) o = o
  open_step (leaves t u) o = o
  open_step (handled c) o = o.1
  open_step (passes u) o = o.1

  pub open_steps : {a b : Config Stock} → Steps G D a b → Open G a → Open G b
  open_steps stay o = o
  open_steps (more p q) o = open_step q (open_steps p o)

  -- Of every run.
  pub open_run : {opening : Stock} {b : Config Stock} → Run G D opening b → Open G b
  open_run p = open_steps p tt
