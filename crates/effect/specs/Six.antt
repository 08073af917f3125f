-- The six types: what a stock and an effect are at each, and the stock and the effect that are given at each.
use Rattle.std.specs.Prelude.{ℕ, zero, suc, Bool, ◌&&◌, List, [], ◌∷◌, get_or}
use Rattle.effect_one.specs.declared.Held.{Held}
use Rattle.effect_one.specs.declared.One.{One}
use Rattle.effect.specs.declared.Stock.{Stock}
use Rattle.effect.specs.declared.Effect.{Effect}

abbrev pub six : (ℕ → ℕ) → List ℕ
six f = f 0 ∷ f 1 ∷ f 2 ∷ f 3 ∷ f 4 ∷ f 5 ∷ []

abbrev pub all_six : (ℕ → Bool) → Bool
all_six f = f 0 && (f 1 && (f 2 && (f 3 && (f 4 && f 5))))

-- the six things in order; past the sixth, the sixth
abbrev pub among {ℓ} : {A : Type ℓ} → A → A → A → A → A → A → ℕ → A
among p q r s t u zero = p
among p q r s t u (suc zero) = q
among p q r s t u (suc (suc zero)) = r
among p q r s t u (suc (suc (suc zero))) = s
among p q r s t u (suc (suc (suc (suc zero)))) = t
among p q r s t u (suc (suc (suc (suc (suc k))))) = u

-- "A stock gives each type rights and a count."
abbrev pub held_at : Stock → ℕ → Held
held_at s k = record { rights = get_or s.rights k 0; count = get_or s.counts k 0 }

abbrev pub stock_of : (ℕ → Held) → Stock
stock_of f = record { rights = six (λ k. (f k).rights); counts = six (λ k. (f k).count) }

-- what is held where nothing is
abbrev pub none_held : Held
none_held = record { rights = 0; count = 0 }

-- "An effect tells, for each type, what is left after a stretch"
abbrev pub one_at : Effect → ℕ → One
one_at e k =
    record {
      keepin = get_or e.keepin k 0;
      keepmax = get_or e.keepmax k 0;
      cap = get_or e.cap k 0;
      drop = get_or e.drop k 0;
    }

abbrev pub effect_of : (ℕ → One) → Effect
effect_of f =
    record {
      keepin = six (λ k. (f k).keepin);
      keepmax = six (λ k. (f k).keepmax);
      cap = six (λ k. (f k).cap);
      drop = six (λ k. (f k).drop);
    }
