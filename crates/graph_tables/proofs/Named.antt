-- A number and the kind that it stands for.
use Prim.Native.Nat.{ℕ, zero, suc, ◌<◌}
use mathlib.Core.Path.{◌≡◌, refl}
use native.Mathlib.Omega.{arith}
use borrow.Author.Rules.{rules}
use Rattle.std.specs.declared.option.Option.TheVariants.{None, Some}
use Rattle.graph_tables.specs.declared.Kind.{Kind}
use Rattle.graph_tables.specs.declared.Kind.TheVariants.{Plain, Grant, Draw, Call, Return, Throw}
use Rattle.graph_tables.specs.Kinds.{throw_kind}
use Rattle.graph_tables.specs.Named.{number_of, kind_named}

-- a kind's number stands for it
pub named_by_number : (k : Kind) → kind_named (number_of k) ≡ Some k
named_by_number Plain = refl
named_by_number Grant = refl
named_by_number Draw = refl
named_by_number Call = refl
named_by_number Return = refl
named_by_number Throw = refl

-- and no other number does
pub number_named : (n : ℕ) (k : Kind) → kind_named n ≡ Some k → n ≡ number_of k
number_named zero k e = search rules
number_named (suc zero) k e = search rules
number_named (suc (suc zero)) k e = search rules
number_named (suc (suc (suc zero))) k e = search rules
number_named (suc (suc (suc (suc zero)))) k e = search rules
number_named (suc (suc (suc (suc (suc zero))))) k e = search rules
number_named (suc (suc (suc (suc (suc (suc n)))))) k e = search rules

-- the numbers above 5 stand for none
pub none_named : (n : ℕ) → kind_named n ≡ None → throw_kind < n
none_named zero e = search rules
none_named (suc zero) e = search rules
none_named (suc (suc zero)) e = search rules
none_named (suc (suc (suc zero))) e = search rules
none_named (suc (suc (suc (suc zero)))) e = search rules
none_named (suc (suc (suc (suc (suc zero))))) e = search rules
none_named (suc (suc (suc (suc (suc (suc n)))))) e = omega arith
