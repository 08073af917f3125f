-- What each operation ensures beside its equation: the record of what an effect leaves, or of what a test tells.
use Prim.Native.Nat.{ℕ, zero, suc, ◌<◌, min}
use mathlib.Core.Path.{◌≡◌, sym, ◌∙◌}
use mathlib.Core.Bool.{Bool, true}
use mathlib.Core.List.{List, [], ◌∷◌}
use native.Mathlib.Omega.{arith}
use native.Mathlib.Nat.{le_of_eq}
use lib.ListN.{get_or}
use mir.Syntax.{w16}
use mir.Val.{Val}
use denote.Shadow.{shadow}
use denote.Laws.{Is}
use denote.Plain.{UInt}
use denote.Array.{each}
use denote.Struct.Declared.{row}
use Rattle.effect.specs.declared.Stock.{Stock}
use Rattle.effect.specs.declared.Effect.{Effect}
use Rattle.effect.specs.Six.{held_at, one_at}
use Rattle.effect.specs.Whole.{normal_of, apply_of, at_most_of, stock_at_most_of, fails_of, stock_fails_of, lower_of, covers_of}
use Rattle.effect.specs.Coordinate.{Coordinate, at}
use Rattle.effect.specs.Meaning.{Below, AtMost, BelowAt, AtMostAt, LowestFailing, Covers, Normal, Leaves, Exactly}
use Rattle.effect.specs.contracts.Effect as effect
use Rattle.effect.specs.contracts.Stock as stock
use Rattle.effect.proofs.Six.{all_i, SixOnes}
use Rattle.effect.proofs.Single.{normal_true, true_normal}
use Rattle.effect.proofs.Laws.{Words, normal_at, at_most_anti}
use Rattle.effect.proofs.Coordinate.{at_lower, stock_at_sound, stock_at_complete, at_most_at_sound, at_most_at_complete, covers_sound, covers_complete}
use Rattle.effect.proofs.Failing.{fails_means, stock_fails_means}
use Rattle.effect_one.specs.Formulas.{normal_one}

-- the test of normal form is the meaning
pub normal_sound : (e : Effect) → normal_of e ≡ true → Normal e
normal_sound e n k h = normal_true (one_at e k) (normal_at e n k h)

pub normal_complete : (e : Effect) → Normal e → normal_of e ≡ true
unfolding normal_of
normal_complete e n = all_i (λ k. normal_one (one_at e k)) (λ k h. true_normal (one_at e k) (n k h))

-- an effect that is known by its equation
pub leaves : {r e : Effect} (f : Coordinate → Stock → ℕ) → normal_of e ≡ true → ((i : Coordinate) (s : Stock) → at i (apply_of e s) ≡ f i s) → r ≡ e
    → (r ≡ e) × Leaves r f
leaves {r} {e} f n l p = (p, rw p (record { normal = normal_sound e n; left = l }))

-- no second effect leaves the same
pub one_effect : (a b : Effect) (f : Coordinate → Stock → ℕ) → SixOnes a → SixOnes b → Words a → Words b → Leaves a f → Leaves b f → a ≡ b
one_effect a b f u v w x p q =
    at_most_anti a b (normal_complete a p.normal) (normal_complete b q.normal) u v
    (at_most_at_complete a b w (λ s i. le_of_eq (p.left i s ∙ sym (q.left i s))))
    (at_most_at_complete b a x (λ s i. le_of_eq (q.left i s ∙ sym (p.left i s))))

-- and a stock
pub lowers : {r : Stock} (s t : Stock) → r ≡ lower_of s t → (r ≡ lower_of s t) × ((i : Coordinate) → at i r ≡ min (at i s) (at i t))
lowers s t p = (p, rw p (λ i. at_lower i s t))

-- a test that is known by its equation
tells : {r b : Bool} {P : Type 0} → (b ≡ true → P) → (P → b ≡ true) → r ≡ b → (r ≡ b) × Exactly r P
tells s c p = (p, rw p (record { holds = s; says = c }))

pub tells_normal : {r : Bool} (e : Effect) → r ≡ normal_of e → (r ≡ normal_of e) × Exactly r (Normal e)
tells_normal e = tells (normal_sound e) (normal_complete e)

pub tells_covers : {r : Bool} (s : Stock) (t p : ℕ) → r ≡ covers_of s t p → (r ≡ covers_of s t p) × Exactly r (Covers s t p)
tells_covers s t p = tells (covers_sound s t p) (covers_complete s t p)

-- rights are words: a struct of sixteen-bit numbers tells it
word : (k : ℕ) (xs : List ℕ) (us : List Val) → shadow (each ℕ (UInt w16).own_val xs us) → get_or xs k 0 < 65536
word k [] us s = omega arith
word k (x ∷ xs) [] s = absurd s
word zero (x ∷ xs) (u ∷ us) s = omega (arith, s.0.1)
word (suc k) (x ∷ xs) (u ∷ us) s = word k xs us s.1

pub effect_words : (e : Effect) {vs : List Val} → Is (row effect.the_type) e vs → Words e
effect_words e p k h = word k e.keepmax p.1.1.1.0.0 p.1.1.1.0.1.1

pub stock_words : (s : Stock) {vs : List Val} → Is (row stock.the_type) s vs → (k : ℕ) → k < 6 → (held_at s k).rights < 65536
stock_words s p k h = word k s.rights p.1.1.0.0 p.1.1.0.1.1

pub tells_fails : {r : ℕ} (a b : Effect) {vs : List Val} → Is (row effect.the_type) a vs → r ≡ fails_of a b → (r ≡ fails_of a b) × LowestFailing (λ k. AtMostAt k a b) r
tells_fails a b g p = (p, rw p (fails_means a b (effect_words a g)))

pub tells_stock_fails : {r : ℕ} (s t : Stock) {vs : List Val} → Is (row stock.the_type) s vs → r ≡ stock_fails_of s t → (r ≡ stock_fails_of s t) × LowestFailing (λ k. BelowAt k s t) r
tells_stock_fails s t g p = (p, rw p (stock_fails_means s t (stock_words s g)))

pub tells_at_most : {r : Bool} (a b : Effect) {vs : List Val} → Is (row effect.the_type) a vs → r ≡ at_most_of a b → (r ≡ at_most_of a b) × Exactly r (AtMost a b)
tells_at_most a b g = tells (at_most_at_sound a b) (at_most_at_complete a b (effect_words a g))

pub tells_stock : {r : Bool} (s t : Stock) {vs : List Val} → Is (row stock.the_type) s vs → r ≡ stock_at_most_of s t → (r ≡ stock_at_most_of s t) × Exactly r (Below s t)
tells_stock s t g = tells (stock_at_sound s t) (stock_at_complete s t (stock_words s g))
