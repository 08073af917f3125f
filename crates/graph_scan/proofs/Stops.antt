-- Where `?` returns a refusal.
use mathlib.Core.Path.{◌≡◌, sym, subst}
use Prim.Native.Nat.{◌<◌}
use Rattle.std.proofs.Common.{Result, Ok, Err}
use Rattle.std.specs.Prelude.{IfErr}
use Rattle.std.specs.Result.{IsErrAnd}
use Rattle.answer.specs.declared.Answer.{Answer}
use Rattle.answer.specs.Number.{number_of}
use Rattle.graph_scan.specs.Scan.{refusal_or}

-- the refusal stands before what comes next
pub stops : (r : Result (Unit {0}) Answer) {a : Answer} (next : Answer) → IsErrAnd r (λ e. e ≡ a) → a ≡ refusal_or r next
stops (Ok x) next h = absurd h
stops (Err e) next h = sym h

-- and is one
pub refuses : (r : Result (Unit {0}) Answer) (a : Answer) → IsErrAnd r (λ e. e ≡ a) → 0 < number_of a → IfErr r (λ e. 0 < number_of e)
refuses (Ok x) a h l = absurd h
refuses (Err e) a h l = subst (λ a. 0 < number_of a) (sym h) l
