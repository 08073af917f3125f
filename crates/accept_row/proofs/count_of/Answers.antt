use Prim.Native.Nat.{◌*◌, ◌/◌, ◌≤◌}
use mathlib.Core.Path.{◌≡◌, sym, ap, subst, ◌∙◌}
use native.Mathlib.Nat.{mul-le-mul}
use native.Mathlib.Omega.{arith}
use Rattle.sheet_layout.specs.Layout.{sheet_bytes}
use Rattle.accept_row.specs.Counts.{Counts}
use Rattle.sheet_layout.proofs.Bounds.{sheet_le}
use Rattle.accept_row.proofs.count_of.Goals as goal

pub overflow_mul-count-2 : goal.overflow_mul-count-2
unfolding sheet_bytes
overflow_mul-count-2 c =
    let size = c.sheet_bytes.result in
    let few : c.args.numbers / 2 ≤ 100 = omega (arith, c.if-count-gt20.false) in
    let small : size ≤ 56064 = omega (arith, c.sheet_bytes.ensures, sheet_le c.requires) in
    let most : c.args.numbers / 2 * size ≤ 100 * 56064 = mul-le-mul {n₂ = 100} {m₂ = 56064} few small in
    omega arith

pub returns-then-bytes-count : goal.returns-then-bytes-count
returns-then-bytes-count c =
    record {
      some = λ k e. absurd (cc e);
      none = λ z k h.
          let a = c.args in
          let e : k ≡ a.numbers / 2 = omega (arith, h.two) in
          c.if-bytes-count.true (h.whole ∙ (λ i. e i * sym c.sheet_bytes.ensures i));
    }

pub returns : goal.returns
returns c =
    let count = c.args.numbers / 2 in
    let all : Counts (sheet_bytes c.args.x) c.args.bytes c.args.numbers count = record { some = omega arith; few = omega arith; whole = c.if-bytes-count.false ∙ ap (λ z. count * z) c.sheet_bytes.ensures; two = omega arith } in
    record { some = λ k e. subst (Counts (sheet_bytes c.args.x) c.args.bytes c.args.numbers) (cc e) all; none = λ e. absurd (cc e) }
