-- A sheet made of two: what a call row took of one when its turn came, and what the other says by now. It is attained if both are.
use Prim.Native.Nat.{ℕ, zero, suc}
use Rattle.model.specs.Rules.{Effects, Sheet}
use Rattle.model.proofs.Setting.{Setting}
use Rattle.model.proofs.Attained.{Attained, ExitHit}

abbrev pub first_of {ℓ} : {A : Type ℓ} → A → (ℕ → A) → ℕ → A
first_of a g zero = a
first_of a g (suc e) = g (suc e)

-- the nodes and the exits 0 of T; the methods and the other exits of U
abbrev pub mixed : (W : Effects) → Sheet W → Sheet W → Sheet W
mixed W T U = record {
  Called = U.Called;
  stock = U.stock;
  Exit = λ m. first_of (T.Exit m 0) (U.Exit m);
  exit = λ m. first_of (T.exit m 0) (U.exit m);
  Node = T.Node;
  node = T.node;
}

pub attained_mixed : (S : Setting) (T U : Sheet S.W) → Attained S T → Attained S U → Attained S (mixed S.W T U)
attained_mixed S T U A B = record { methods_hit = B.methods_hit; nodes_hit = A.nodes_hit; exits_hit = exits }
  where
    exits : (m y : ℕ) → (mixed S.W T U).Exit m y → ExitHit S m y ((mixed S.W T U).exit m y)
    exits m zero e = A.exits_hit m 0 e
    exits m (suc y) e = B.exits_hit m (suc y) e
