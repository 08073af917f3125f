-- No second number, and no second content of the sheet, the area, the row or the output, fits.
use Prim.Native.Nat.{ℕ}
use mathlib.Core.Path.{◌≡◌, sym, ap, ◌∙◌}
use mathlib.Core.List.{List}
use lib.ListN.{length}
use Rattle.answer.specs.Number.{packed_of}
use Rattle.profile.proofs.Breaks as profile
use Rattle.accept.proofs.Meaning as check
use Rattle.accept.proofs.Many.{only_many}
use Rattle.work.proofs.Only as work
use Rattle.work_queued.proofs.Only.{only_queued, same_engine}
use Rattle.listing.proofs.Only as listed
use Rattle.snellair.specs.Reply.{WorkedOut, WorkedQueued, Checked, CheckedMany, OneShot, Session, ListedOut}

pub one_reply : {f s r q : List ℕ} {n m : ℕ} → WorkedOut f s r n → WorkedOut f s q m → (n ≡ m) × (r ≡ q)
one_reply {f} {s} {r} {q} a b =
    let same = work.only f s r q a.works b.works in
    (a.packed ∙ ap packed_of same.0 ∙ sym b.packed, same.1)

pub one_queued : {f s r q b c d : List ℕ} {n m : ℕ} → WorkedQueued f s r b c n → WorkedQueued f s q b d m → (n ≡ m) × (r ≡ q) × (c ≡ d)
one_queued {f} {s} {r} {q} {b} {c} {d} a e =
    let same = only_queued f s b r q c d a.queued e.queued in
    (a.packed ∙ ap packed_of same.0 ∙ sym e.packed, same.1, same.2)

-- whatever the area held, the number and the sheet are those of work out
pub one_engine : {f s r q b c : List ℕ} {n m : ℕ} → length b ≡ 4096 → WorkedQueued f s r b c n → WorkedOut f s q m → (n ≡ m) × (r ≡ q)
one_engine {f} {s} {r} {q} {b} {c} l a e =
    let same = same_engine f s r q b c l a.queued e.works in
    (a.packed ∙ ap packed_of same.0 ∙ sym e.packed, same.1)

pub one_answer : {f s : List ℕ} {n m : ℕ} → Checked f s n → Checked f s m → n ≡ m
one_answer {f} {s} a b = a.packed ∙ ap packed_of (check.only f s a.checks ∙ sym (check.only f s b.checks)) ∙ sym b.packed

pub one_row : {f s w r q : List ℕ} {n m : ℕ} → CheckedMany f s w r n → CheckedMany f s w q m → (n ≡ m) × (r ≡ q)
one_row {f} {s} a b =
    let same = only_many f s a.checks b.checks in
    (a.packed ∙ ap packed_of same.0 ∙ sym b.packed, same.1)

pub one_one_shot : {f : List ℕ} {n m : ℕ} → OneShot f n → OneShot f m → n ≡ m
one_one_shot {f} a b = a.packed ∙ ap packed_of (profile.only f a.means b.means) ∙ sym b.packed

pub one_session : {f : List ℕ} {n m : ℕ} → Session f n → Session f m → n ≡ m
one_session {f} a b = a.packed ∙ ap packed_of (profile.only f a.means b.means) ∙ sym b.packed

pub one_list : {f s r t o p q : List ℕ} {n m : ℕ} → ListedOut f s r o p n → ListedOut f s t o q m → (n ≡ m) × (r ≡ t) × (p ≡ q)
one_list a b =
    let same = listed.one_listing a.lists b.lists in
    (a.packed ∙ ap packed_of same.0 ∙ sym b.packed, same.1, same.2)
