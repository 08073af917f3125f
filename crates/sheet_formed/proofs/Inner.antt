-- What is asked of each type of an effect that lies in the sheet.
use Prim.Native.Nat.{ℕ, zero, suc, ◌+◌, ◌*◌, ◌≤◌, ◌<◌}
use mathlib.Core.Path.{◌≡◌, refl, sym, ap, ◌∙◌}
use mathlib.Core.Bool.{Bool, true, false, ◌&&◌, and-true}
use mathlib.Core.List.{List}
use lib.ListN.{length, get_or}
use native.Mathlib.Decide.{dec_lt}
use native.Mathlib.Omega.{arith}
use borrow.Author.Count.{below_more}
use Rattle.std.specs.Prelude.{MatchBool}
use Rattle.std.specs.List.{list_all}
use Rattle.std.proofs.lemmas.List.FromFn.{fill_by_all}
use Rattle.words.specs.Bytes.{word_at}
use Rattle.words.specs.Four.{four_at}
use Rattle.words.proofs.Four.{four_zero, zero_four}
use Rattle.words.proofs.Lowest.{NoneBelow}
use Rattle.effect_one.specs.Single.{idle}
use Rattle.effect_one.specs.Formulas.{normal_one}
use Rattle.sheet_layout.specs.Layout.{effect_size}
use Rattle.effect.specs.Six.{six, all_six, one_at}
use Rattle.effect.specs.Whole.{normal_of, nothing_done}
use Rattle.effect.proofs.Bools.{clash}
use Rattle.effect.proofs.Six.{all_i, all_e}
use Rattle.effect.proofs.Laws.{nothing_normal, normal_at}
use Rattle.sheet.specs.Read.{sheet_word, effect_at}
use Rattle.sheet.specs.Inner.{one_words}
use Rattle.sheet.proofs.Types.{one_read, idle_read}
use Rattle.sheet_formed.specs.Ill.{not_zero, some_word}
use Rattle.sheet_formed.proofs.Scan.{some_none, zero_there}
use Rattle.sheet_formed.proofs.Judged.{all_zero}

module _ (s : List ℕ) (w : ℕ) where
  at : (j k : ℕ) → sheet_word s (w + (1 + 4 * k + j)) ≡ word_at s (2 * (w + (1 + 4 * k)) + 2 * j)
  at j k = ap (word_at s) (omega arith)

  -- the mark is 0
  first_more : sheet_word s w ≡ 0 → NoneBelow (not_zero s w) (1 + 4 * 0)
  first_more e i l =
      let z : i ≡ 0 = omega arith in
      rw z (zero_there s w 0 (ap (sheet_word s) (omega arith) ∙ e))

  -- four words more are 0
  four_more : (k : ℕ) → NoneBelow (not_zero s w) (1 + 4 * k) → four_at s (2 * (w + (1 + 4 * k))) ≡ 0 → NoneBelow (not_zero s w) (1 + 4 * (k + 1))
  four_more k h e =
      let z = four_zero s (2 * (w + (1 + 4 * k))) e in
      let none : ℕ → Type 0 = λ i. not_zero s w i ≡ false in
      let one = below_more none (1 + 4 * k) h (zero_there s w (1 + 4 * k) z.first) in
      let two = below_more none (1 + 4 * k + 1) one (zero_there s w (1 + 4 * k + 1) (at 1 k ∙ z.second)) in
      let three = below_more none (1 + 4 * k + 2) (λ i l. two i (omega arith)) (zero_there s w (1 + 4 * k + 2) (at 2 k ∙ z.third)) in
      let four = below_more none (1 + 4 * k + 3) (λ i l. three i (omega arith)) (zero_there s w (1 + 4 * k + 3) (at 3 k ∙ z.fourth)) in
      λ i l. four i (omega arith)

  four_none : (m : ℕ) → sheet_word s w ≡ 0 → ((k : ℕ) → k < m → four_at s (2 * (w + (1 + 4 * k))) ≡ 0) → NoneBelow (not_zero s w) (1 + 4 * m)
  four_none zero e h = first_more e
  four_none (suc m) e h = λ i l. four_more m (four_none m e (λ k u. h k (omega arith))) (h m (omega arith)) i (omega arith)

  -- one of four is not
  four_found : (n k : ℕ) → 1 + 4 * k + 4 ≤ n → (four_at s (2 * (w + (1 + 4 * k))) ≡ 0 → ⊥) → true ≡ some_word s w n
  four_found n k l h = go (some_word s w n) refl
    where
      go : (b : Bool) → some_word s w n ≡ b → true ≡ b
      go true q = refl
      go false q =
          let z = all_zero s w n q in
          absurd (h (zero_four s (2 * (w + (1 + 4 * k)))
          (record {
            first = z (w + (1 + 4 * k)) (omega arith) (omega arith);
            second = sym (at 1 k) ∙ z (w + (1 + 4 * k + 1)) (omega arith) (omega arith);
            third = sym (at 2 k) ∙ z (w + (1 + 4 * k + 2)) (omega arith) (omega arith);
            fourth = sym (at 3 k) ∙ z (w + (1 + 4 * k + 3)) (omega arith) (omega arith);
          })))

-- what `any` over the types gives
pub some_inner : (s : List ℕ) (t w : ℕ) → sheet_word s w ≡ 0 → (r : Bool)
    → MatchBool r ((k : ℕ) × (k < t) × (four_at s (2 * (w + (1 + 4 * k))) ≡ 0 → ⊥)) ((k : ℕ) → k < t → four_at s (2 * (w + (1 + 4 * k))) ≡ 0)
    → r ≡ some_word s w (effect_size t)
some_inner s t w e true h = four_found s w (effect_size t) h.0 (omega (arith, h.1)) h.2
some_inner s t w e false h = some_none s w (effect_size t) (1 + 4 * t) (four_none s w t e h) (omega arith)

idle_normal : normal_one idle ≡ true
unfolding nothing_done
idle_normal = normal_at nothing_done nothing_normal 0 (omega arith)

module _ (s : List ℕ) (t w : ℕ) (few : t ≤ 6) where
  normal_all : ((j : ℕ) → j < t → normal_one (one_words s w j) ≡ true) → true ≡ normal_of (effect_at s t w)
  unfolding normal_of
  normal_all before =
      sym (all_i (λ j. normal_one (one_at (effect_at s t w) j))
      (λ j l. elim (dec_lt j t) [
        | yes h ↦ ap normal_one (one_read s t w j h l) ∙ before j h
        | no h ↦ ap normal_one (idle_read s t w j (omega arith) l) ∙ idle_normal
      ]))

  normal_found : (k : ℕ) → k < t → normal_one (one_words s w k) ≡ false → false ≡ normal_of (effect_at s t w)
  unfolding normal_of
  normal_found k u e = go (normal_of (effect_at s t w)) refl
    where
      go : (b : Bool) → normal_of (effect_at s t w) ≡ b → false ≡ b
      go false q = refl
      go true q = absurd (clash (normal_one (one_words s w k)) (sym (ap normal_one (one_read s t w k u (omega arith))) ∙ all_e (λ j. normal_one (one_at (effect_at s t w) j)) q k (omega arith)) e)

  -- what `all` over the types gives
  pub normal_is : (r : Bool) → MatchBool r ((k : ℕ) → k < t → normal_one (one_words s w k) ≡ true) ((k : ℕ) × (k < t) × (normal_one (one_words s w k) ≡ false)) → r ≡ normal_of (effect_at s t w)
  normal_is true h = normal_all h
  normal_is false h = normal_found h.0 h.1 h.2

-- a test of each element of a list of six
pub all_list : (test : ℕ → Bool) (xs : List ℕ) → length xs ≡ 6 → list_all test xs ≡ all_six (λ k. test (get_or xs k 0))
all_list test xs h =
    let p : xs ≡ six (λ k. get_or xs k 0) = fill_by_all (λ k. get_or xs k 0) xs 6 0 h (λ k l. refl) in
    ap (list_all test) p
    ∙ (λ i. test (get_or xs 0 0)
    && (test (get_or xs 1 0) && (test (get_or xs 2 0) && (test (get_or xs 3 0) && (test (get_or xs 4 0) && and-true (test (get_or xs 5 0)) i)))))
