-- Texts written one after another are one text written. The functions' proofs are chains of this law.
use Prim.Native.Nat.{ℕ, ◌+◌, ◌≤◌}
use mathlib.Core.Path.{◌≡◌, refl, ◌∙◌}
use mathlib.Core.List.{List, [], ◌++◌}
use lib.ListN.{length}
use Rattle.words_digits.specs.Text.{joined}
use Rattle.words_digits.specs.declared.Text.{Text}
use Rattle.words_digits.specs.Writes.{Writes}
use Rattle.words_digits.proofs.Join as join

-- nothing is written by leaving all as it is
pub none : (s : Text) → s.end ≤ length s.out.now → Writes s [] s
none s h = record { same = refl; puts = join.none s.out.now s.end h }

pub retext : {s s' : Text} {x y : List ℕ} → Writes s x s' → x ≡ y → Writes s y s'
retext w e = record { same = w.same; puts = join.retext w.puts e }

infixl 60 ◌then◌
pub ◌then◌ : {s s' s'' : Text} {x y : List ℕ} → Writes s x s' → Writes s' y s'' → Writes s (x ++ y) s''
◌then◌ v w = record { same = w.same ∙ v.same; puts = join.◌then◌ v.puts w.puts }

-- where there is room for both, there is room for the second
pub rest : {s s' : Text} {x : List ℕ} (y : List ℕ) → Writes s x s' → s.end + length (x ++ y) ≤ length s.out.now → s'.end + length y ≤ length s'.out.now
rest y w h = join.rest y w.puts h

-- a loop that writes the texts of 0 to n - 1
pub start : (text : ℕ → List ℕ) (s : Text) → s.end ≤ length s.out.now → Writes s (joined text 0) s
start text s h = record { same = refl; puts = join.start text s.out.now s.end h }

pub turn : (text : ℕ → List ℕ) (k : ℕ) {s s' s'' : Text} → Writes s (joined text k) s' → Writes s' (text k) s''
    → Writes s (joined text (k + 1)) s''
turn text k v w = record { same = w.same ∙ v.same; puts = join.turn text k v.puts w.puts }
