use Prim.Native.Nat.{ℕ, ◌+◌, ◌*◌, ◌≤◌}
use mathlib.Core.Path.{refl}
use mathlib.Core.List.{◌++◌}
use lib.ListN.{length}
use Rattle.words.specs.Write.{word_bytes}
use Rattle.sheet_lower.proofs.Turn.{splice_next}
use borrow.Author.Rules.{rules}
use Rattle.sheet_lower.proofs.put_one.Goals as goal

pub returns : goal.returns
returns c =
    let a = c.args in
    let at : ℕ = 2 * (a.w + (1 + 4 * a.k)) in
    let room : at ≤ length a.s.now = search rules in
    let i = word_bytes a.x.keepin in
    let m = word_bytes a.x.keepmax in
    let p = word_bytes a.x.cap in
    let d = word_bytes a.x.drop in
    splice_next a.s.now at (i ++ m ++ p) d (at + 6) room refl
    (splice_next a.s.now at (i ++ m) p (at + 4) room refl (splice_next a.s.now at i m (at + 2) room refl c.put_word.ensures c.put_word-2.ensures) c.put_word-3.ensures)
    c.put_word-4.ensures
