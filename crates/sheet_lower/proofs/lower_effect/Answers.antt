use Prim.Native.Nat.{◌+◌, ◌*◌, ◌≤◌, ◌<◌}
use mathlib.Core.Path.{refl}
use lib.ListN.{length}
use native.Mathlib.Omega.{arith}
use borrow.Author.Rules.{rules}
use Rattle.sheet_lower.specs.Lowered.{lowered_effect}
use Rattle.sheet_lower.proofs.Turn.{none_laid, type_more, type_left, mark_last, lowered_at}
use Rattle.sheet_lower.proofs.lower_effect.Goals as goal

pub loop-k-init : goal.loop-k-init
loop-k-init c =
    let a = c.args in
    (search rules, c.is_marked-old.ensures, none_laid (lowered_effect a.s.now a.t a.w a.e) a.s.now a.w)

pub loop-k-preserved : goal.loop-k-preserved
loop-k-preserved c =
    let a = c.args in
    let v = c.loop-k.invariant in
    let k = c.loop-k.k in
    let u : k < a.t = search rules in
    let e = lowered_effect a.s.now a.t a.w a.e in
    let room : 2 * (a.w + (5 + 4 * k)) ≤ length a.s.now = omega (arith, c.requires.0, u) in (
      search rules,
      v.1,
      type_more e a.s.now a.w k room v.2
          (lowered_at a.s.now a.t a.w a.e k u (omega (arith, c.requires.1, u)) v.1 (type_left e a.s.now a.w k room v.2) refl)
          c.lower_one.ensures,
    )

pub returns : goal.returns
returns c =
    let a = c.args in
    let v = c.loop-k.invariant in
    mark_last (lowered_effect a.s.now a.t a.w a.e) a.s.now a.w a.t c.loop-k.k (omega (arith, c.requires.0)) (search rules) v.2 c.put_word.ensures
