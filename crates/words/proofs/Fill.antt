-- A loop that fills a slice with the words of f, one a turn.
use Prim.Native.Nat.{ℕ, ◌+◌, ◌*◌, ◌≤◌, ◌<◌}
use mathlib.Core.Path.{◌≡◌, refl, sym, ap, ◌∙◌}
use mathlib.Core.List.{List, [], ◌++◌, append_assoc, append-nil}
use lib.ListN.{length, take, drop, drop_of_length-le}
use lib.Seq.{take_at, drop-drop, drop-append-add}
use native.Mathlib.Numerals.{add-one}
use native.Mathlib.Omega.{arith}
use Rattle.words.specs.Write.{splice, word_bytes, bytes_of}
use Rattle.words.proofs.Splice.{length_bytes, length_splice}

-- p is p₀ with its first k words those of f
pub record Filling (f : ℕ → ℕ) (n : ℕ) (p₀ p : List ℕ) (k : ℕ) : Type 0 where
  pub some : k ≤ n
  pub room : length p₀ ≡ 2 * n
  pub long : length p ≡ 2 * n
  pub is : p ≡ bytes_of f k ++ drop (2 * k) p₀

pub fill_start : (f : ℕ → ℕ) (n : ℕ) (p : List ℕ) → length p ≡ 2 * n → Filling f n p p 0
unfolding bytes_of
fill_start f n p h = record { some = omega arith; room = h; long = h; is = refl }

bytes_more : (f : ℕ → ℕ) (k : ℕ) → bytes_of f (k + 1) ≡ bytes_of f k ++ word_bytes (f k)
unfolding bytes_of
bytes_more f k = rw add-one

turn : (f : ℕ → ℕ) (p : List ℕ) (k : ℕ)
    → splice (bytes_of f k ++ drop (2 * k) p) (2 * k) (word_bytes (f k)) ≡ bytes_of f (k + 1) ++ drop (2 * (k + 1)) p
turn f p k =
    let b : List ℕ = bytes_of f k in
    let q : List ℕ = drop (2 * k) p in
    let n : length b ≡ 2 * k = length_bytes f k in
    let n' : 2 * k + 2 ≡ length b + 2 = omega arith in
    let n'' : 2 * k + 2 ≡ 2 * (k + 1) = omega arith in
    let front : take (2 * k) (b ++ q) ≡ b = take_at b q (2 * k) n in
    let back : drop (2 * k + 2) (b ++ q) ≡ drop (2 * (k + 1)) p
    = ap (λ (j : ℕ). drop j (b ++ q)) n' ∙ drop-append-add b q 2 ∙ drop-drop 2 (2 * k) p ∙ ap (λ (j : ℕ). drop j p) n'' in
    rw (front, back, bytes_more f k) (sym (append_assoc b (word_bytes (f k)) (drop (2 * (k + 1)) p)))

pub fill_turn : {f : ℕ → ℕ} {n : ℕ} {p₀ p p' : List ℕ} {k v : ℕ} → Filling f n p₀ p k → k < n → v ≡ f k
    → p' ≡ splice p (2 * k) (word_bytes v) → Filling f n p₀ p' (k + 1)
fill_turn {f} {n} {p₀} {p} {p'} {k} {v} w l e h =
    let h' : p' ≡ splice p (2 * k) (word_bytes (f k)) = h ∙ ap (λ (u : ℕ). splice p (2 * k) (word_bytes u)) e in
    record {
      some = omega arith;
      room = w.room;
      long = ap length h' ∙ length_splice p (2 * k) (word_bytes (f k)) (omega (arith, w.long)) ∙ w.long;
      is = h' ∙ ap (λ (q : List ℕ). splice q (2 * k) (word_bytes (f k))) w.is ∙ turn f p₀ k;
    }

pub fill_end : {f : ℕ → ℕ} {n : ℕ} {p₀ p : List ℕ} {k : ℕ} → Filling f n p₀ p k → n ≤ k → p ≡ bytes_of f n
fill_end {f} {n} {p₀} {p} {k} w l =
    let q : k ≡ n = omega (arith, w.some) in
    let d : drop (2 * k) p₀ ≡ [] = drop_of_length-le p₀ {i = 2 * k} (omega (arith, w.room)) in
    w.is ∙ rw d (append-nil (bytes_of f k)) ∙ ap (bytes_of f) q
