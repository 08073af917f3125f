-- A draw that is come to only along flow rows from grants of what it draws is never overdrawn: the last step into it covers it.
use mathlib.Core.Path.{◌≡◌, refl, sym, subst}
use mathlib.Core.List.{List}
use Prim.Native.Nat.{ℕ, ◌≤◌, ◌<◌}
use lib.ListN.{get_or}
use Rattle.effect.specs.declared.Stock.{Stock}
use Rattle.effect.specs.Coordinate.{bit}
use Rattle.effect.specs.Meaning.{with_at, replaced}
use Rattle.effect.proofs.Six.{below_six}
use Rattle.model.specs.Stocks.{grant, draw, done, Covered}
use Rattle.model.specs.Machine.{Graph, Doing, Config, At, Out, Step, along, enter, again, back, caught, leaves, handled, passes, stay, more, Run, Overdraws}
use Rattle.model.proofs.Formed.{Formed}
use Rattle.model.proofs.Open.{Open, open_run}

module _ {Stock : Type 0} (G : Graph) (D : Doing Stock) where
  open G use {methods, entry, Call, Flow, Catch}
  open D use {act, Covers}

  -- The ways to the node d: along flow rows alone, each from a node that is no call and whose own step leaves what covers d.
  pub record AskedBefore (d : ℕ) : Type 0 where
    pub by_flow : (g : ℕ) → Flow g d → (Call g → ⊥) × ((s : Stock) → Covers d (act g s))
    pub no_entry : (m : ℕ) → m < methods → entry m ≡ d → ⊥
    pub no_catch : (n e : ℕ) → Catch n e d → ⊥

  module _ (F : Formed G) (opening : Stock) (d : ℕ) (A : AskedBefore d) where
    open F use {first_method, calls_inside}
    open A use {by_flow, no_entry, no_catch}

    -- what is brought to d covers it
    abbrev Brought : Config Stock → Type 0
    Brought (At n σ s) = n ≡ d → Covers d s
    Brought (Out e σ s) = Unit {0}

    -- A run goes back along a flow row of a call alone, since every open call is one.
    last : {a b : Config Stock} → Open G a → Step G D a b → Brought b
    last o (along {n} {s = s} g f) = λ e. (by_flow n (subst (Flow n) e f)).1 s
    last o (enter {c} {m} ca l) = λ e. absurd (no_entry m (calls_inside c m l).1 e)
    last o (again {m = m} r h) = λ e. absurd (no_entry m o.0.exists e)
    last o (back {c = c} r f) = λ e. absurd ((by_flow c (subst (Flow c) e f)).0 o.0.is_call)
    last o (caught {n} {e = x} t c) = λ e. absurd (no_catch n x (subst (G.Catch n x) e c))
    last o (leaves t u) = tt
    last o (handled {e = x} {c = n} c) = λ e. absurd (no_catch n x (subst (G.Catch n x) e c))
    last o (passes u) = tt

    covered : {b : Config Stock} → Run G D opening b → Brought b
    covered stay = λ e. absurd (no_entry 0 first_method e)
    covered (more p q) = last (open_run G F D p) q

    -- No run overdraws there.
    pub not_overdrawn : Overdraws G D opening d → ⊥
    not_overdrawn (s, p, u) = u (covered p.1 refl)

-- A grant of type t with the rights drawn among its own and a count of at least 1 leaves what covers a draw of type t.
pub grant_covers : (t p q m : ℕ) → t < 6 → ((b : ℕ) → bit b p ≤ bit b q) → 1 ≤ m → (s : Stock) → Covered (draw t p) (done (grant t q m) s)
unfolding done replaced with_at
grant_covers t p q m l w c s =
    record {
      a_type = l;
      every_right = λ b. subst (λ (r : ℕ). bit b p ≤ bit b r) (sym (hit q s.rights)) (w b);
      a_count = subst (λ (r : ℕ). 1 ≤ r) (sym (hit m s.counts)) c;
    }
  where
    hit : (v : ℕ) (xs : List ℕ) → get_or (with_at t v xs) t 0 ≡ v
    hit v xs = below_six (λ k. get_or (with_at k v xs) k 0 ≡ v) refl refl refl refl refl refl t l
