use mathlib.Core.Path.{◌≡◌, sym}
use native.Mathlib.Omega.{arith}
use borrow.Author.Rules.{rules}
use Rattle.words_digits.proofs.Join.{room}
use Rattle.words_digits.proofs.Written.{start, turn, retext, ◌then◌}
use Rattle.words_digits.proofs.Places.{place, tens_positive, decimal_places, decimal_length}
use Rattle.words_digits.proofs.Text.put_decimal.Goals as goal

pub loop-p-init : goal.loop-p-init
loop-p-init c = start (place c.args.n) c.args.self.now (omega arith)

pub put_place-requires : goal.put_place-requires
put_place-requires c =
    let l = c.loop-p in
    let w = l.invariant.puts in (
      tens_positive l.p-index (search rules),
      omega (arith, w.ends, w.long, room (place c.args.n) l.p-index 4 (search rules), decimal_length c.args.n),
    )

pub loop-p-preserved : goal.loop-p-preserved
loop-p-preserved c = turn (place c.args.n) c.loop-p.p-index c.loop-p.invariant c.put_place.ensures

pub put_byte-requires : goal.put_byte-requires
put_byte-requires c =
    let l = c.loop-p in
    let end : l.p-index ≡ 4 = omega arith in
    let w = (rw end at l.invariant).puts in
    omega (arith, w.ends, w.long, decimal_length c.args.n)

pub returns : goal.returns
returns c =
    let l = c.loop-p in
    let end : l.p-index ≡ 4 = omega arith in
    retext ((rw end at l.invariant) then c.put_byte.ensures) (sym (decimal_places c.args.n))
