-- A text put at the start of a blank output is the text with 0 behind it.
use Prim.Native.Nat.{ℕ, zero, suc, ◌+◌, ◌-◌, ◌≤◌}
use mathlib.Core.Path.{◌≡◌, ap, ◌∙◌}
use mathlib.Core.List.{List, ◌++◌}
use lib.ListN.{length, drop, replicate, length-replicate}
use native.Mathlib.Omega.{arith}
use Rattle.words_digits.specs.Puts.{Puts}
use Rattle.sheet.specs.Write.{blanked}
use Rattle.listing.specs.Lists.{padded}

zeros : ℕ → List ℕ
zeros n = replicate n 0

drop_zeros : (m n : ℕ) → drop m (zeros n) ≡ zeros (n - m)
unfolding zeros
drop_zeros zero n = let e : n ≡ n - 0 = omega arith in ap zeros e
drop_zeros (suc m) zero = let e : 0 ≡ 0 - suc m = omega arith in ap zeros e
drop_zeros (suc m) (suc n) = let e : n - m ≡ suc n - suc m = omega arith in drop_zeros m n ∙ ap zeros e

pub pads : (o : List ℕ) {b o' text : List ℕ} {n : ℕ} → b ≡ blanked o → Puts b 0 text o' n → (o' ≡ padded text (length o)) × (n ≡ length text)
unfolding zeros
pads o {text = text} e p =
    let z : 0 + length text ≡ length text = omega arith in
    (p.is ∙ (λ i. text ++ drop (z i) (e i)) ∙ ap (λ (l : List ℕ). text ++ l) (drop_zeros (length text) (length o)), p.ends ∙ z)

-- and fits where it would have fitted before
pub still_fits : (o : List ℕ) {b text u : List ℕ} → b ≡ blanked o → u ≡ text → length text ≤ length o → 0 + length u ≤ length b
still_fits o e q h = omega (arith, ap length e, length-replicate {A = ℕ} (length o) 0, ap length q)
