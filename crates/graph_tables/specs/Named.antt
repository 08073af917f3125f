-- The kinds of nodes as an enum: which number stands for which.
use Rattle.std.specs.Prelude.{◌≡◌, ℕ, zero, suc, Option, None, Some, Result, MatchResult}
use Rattle.graph_tables.specs.declared.Kind.{Kind}
use Rattle.graph_tables.specs.declared.Kind.TheVariants.{Plain, Grant, Draw, Call, Return, Throw}
use Rattle.graph_tables.specs.declared.NoKind.{NoKind}
use Rattle.graph_tables.specs.Kinds.{plain_kind, grant_kind, draw_kind, call_kind, return_kind, throw_kind}

abbrev pub number_of : Kind → ℕ
number_of Plain = plain_kind
number_of Grant = grant_kind
number_of Draw = draw_kind
number_of Call = call_kind
number_of Return = return_kind
number_of Throw = throw_kind

-- the kind that a number stands for, of which there are six
abbrev pub kind_named : ℕ → Option Kind
kind_named zero = Some Plain
kind_named (suc zero) = Some Grant
kind_named (suc (suc zero)) = Some Draw
kind_named (suc (suc (suc zero))) = Some Call
kind_named (suc (suc (suc (suc zero)))) = Some Return
kind_named (suc (suc (suc (suc (suc zero))))) = Some Throw
kind_named (suc (suc (suc (suc (suc (suc n)))))) = None

-- the result is the kind that the number stands for, or says that it stands for none
abbrev pub Names : ℕ → Result Kind NoKind → Type 0
Names n r = MatchResult r (λ kind. kind_named n ≡ Some kind) (λ e. (e.0 ≡ n) × (kind_named n ≡ None))
