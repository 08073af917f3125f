use Prim.Native.Nat.{◌+◌, ◌*◌}
use mathlib.Core.Path.{◌≡◌}
use lib.ListN.{length, get_or}
use native.Mathlib.Omega.{arith}
use Rattle.words.specs.Write.{bytes_of}
use Rattle.words.proofs.Splice.{length_bytes, lent_back}
use Rattle.sheet.proofs.put_block.Goals as goal

pub returns : goal.returns
returns c =
    let a = c.args in
    let m = length a.v.now in
    let b = bytes_of (λ k. get_or a.v.now k 0) m in
    let n : length b ≡ 2 * m = length_bytes (λ k. get_or a.v.now k 0) m in
    rw c.put_words.ensures (lent_back (2 * a.w) (2 * a.w + 2 * m) a.s.now b (omega arith) (omega arith))
