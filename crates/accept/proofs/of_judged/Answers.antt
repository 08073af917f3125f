use mathlib.Core.Path.{◌≡◌, sym, ap, ◌∙◌}
use native.Mathlib.Omega.{arith}
use Prim.Native.Nat.{◌<◌, ◌≤◌}
use lib.ListN.{length}
use borrow.Author.Tests.{lt-ltb, le-ltb, eq-eqb, ne_eqb}
use Rattle.answer.specs.declared.Answer.TheVariants.{BadBlock}
use Rattle.sheet_layout.specs.Layout.{sheet_bytes, block_count, block_at}
use Rattle.sheet_layout.proofs.Blocks.{inside}
use Rattle.sheet_layout.proofs.Bounds.{sheet_le}
use Rattle.sheet_formed.specs.Ill.{first_ill}
use Rattle.accept.specs.Check.{judged_sheet}
use Rattle.accept.proofs.of_judged.Goals as goal

pub returns-then-s-sheet_bytes : goal.returns-then-s-sheet_bytes
unfolding judged_sheet
returns-then-s-sheet_bytes c =
    let a = c.args in
    let n : length a.s.now ≡ sheet_bytes a.x → ⊥ = λ e. c.if-s-sheet_bytes.true (e ∙ sym c.sheet_bytes.ensures) in
    simp (ne_eqb _ _ n)

pub overflow_cast-result : goal.overflow_cast-result
overflow_cast-result c =
    let b = c.first_ill-b.result in
    omega (arith, c.block_at.ensures.0, inside c.args.x b (omega (arith, c.block_count.ensures, c.if-b-block_count.true)), sheet_le c.requires.1)

pub returns-then-b-block_count : goal.returns-then-b-block_count
unfolding judged_sheet
returns-then-b-block_count c =
    let a = c.args in
    let e : length a.s.now ≡ sheet_bytes a.x = c.if-s-sheet_bytes.false ∙ c.sheet_bytes.ensures in
    let l : first_ill a.s.now a.x < block_count a.x = rw (← c.first_ill-b.ensures, ← c.block_count.ensures) c.if-b-block_count.true in
    ap BadBlock (c.block_at.ensures.0 ∙ ap (block_at a.x) c.first_ill-b.ensures) ∙ simp (eq-eqb _ _ e, lt-ltb _ _ l)

pub returns : goal.returns
unfolding judged_sheet
returns c =
    let a = c.args in
    let e : length a.s.now ≡ sheet_bytes a.x = c.if-s-sheet_bytes.false ∙ c.sheet_bytes.ensures in
    let l : block_count a.x ≤ first_ill a.s.now a.x = rw (← c.first_ill-b.ensures, ← c.block_count.ensures) c.if-b-block_count.false in
    c.of_whole.ensures ∙ simp (eq-eqb _ _ e, le-ltb _ _ l)
