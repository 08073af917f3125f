-- A block is marked where its mark is 1.
use Prim.Native.Nat.{ℕ}
use mathlib.Core.Path.{◌≡◌}
use mathlib.Core.Bool.{true}
use mathlib.Core.List.{List}
use borrow.Author.Tests.{eq-eqb, eqb-true}
use Rattle.sheet.specs.Read.{mark_at, marked}

pub mark_true : (s : List ℕ) (w : ℕ) → marked s w ≡ true → mark_at s w ≡ 1
unfolding marked
mark_true s w h = eqb-true (mark_at s w) 1 h

pub true_mark : (s : List ℕ) (w : ℕ) → mark_at s w ≡ 1 → marked s w ≡ true
unfolding marked
true_mark s w h = eq-eqb (mark_at s w) 1 h
