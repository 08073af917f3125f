-- What another opening stock does to the sheet, of the shape x, and to the verdict: from r and a to q and b.
use Rattle.std.specs.Prelude.{ℕ, ◌+◌, ◌*◌, ◌≤◌, ◌<◌, ◌≡◌, ◌⊎◌, List}
use Rattle.answer.specs.declared.Answer.{Answer}
use Rattle.answer.specs.Number.{number_of, place_of}
use Rattle.effect.specs.Coordinate.{RightsWithin}
use Rattle.sheet_layout.specs.declared.Shape.{Shape}
use Rattle.sheet_layout.specs.Layout.{effect_size, method_at, exit_at, node_at, sheet_words}
use Rattle.sheet.specs.Read.{sheet_word, SameWords, mark_at}
use Rattle.work.specs.Meaning.{WorksOut}

-- Work out gives f a verdict, "0 and 13 are verdicts", and leaves the sheet r; whatever the sheet that it was lent held before.
pub record Verdict (f r : List ℕ) (a : Answer) : Type 0 where
  pub lent : List ℕ
  pub works_out : WorksOut f lent r a
  pub has_verdict : (number_of a ≡ 0) ⊎ (number_of a ≡ 13)

-- "no mark changes": not a method's, and of exits and nodes no word at all, of which the first is the mark
pub record EffectsStay (x : Shape) (r q : List ℕ) : Type 0 where
  pub called : (m : ℕ) → m < x.methods → mark_at r (method_at x m) ≡ mark_at q (method_at x m)
  pub exits : (m e : ℕ) → m < x.methods → e < 9 → SameWords r q (exit_at x m e) (effect_size x.types)
  pub nodes : (n : ℕ) → n < x.nodes → SameWords r q (node_at x n) (effect_size x.types)

-- where a method's rights and its count of the type k stand
abbrev pub rights_at : Shape → ℕ → ℕ → ℕ
rights_at x m k = method_at x m + (1 + 2 * k)

abbrev pub count_at : Shape → ℕ → ℕ → ℕ
count_at x m k = method_at x m + (2 + 2 * k)

-- "With the opening stock raised, in rights or counts":
pub record NoWorse (x : Shape) (r q : List ℕ) (a b : Answer) : Type 0 where
  pub effects_stay : EffectsStay x r q
  -- each method keeps every right, and no count of it falls;
  pub rights_kept : (m k : ℕ) → m < x.methods → k < x.types → RightsWithin (sheet_word r (rights_at x m k)) (sheet_word q (rights_at x m k))
  pub counts_kept : (m k : ℕ) → m < x.methods → k < x.types → sheet_word r (count_at x m k) ≤ sheet_word q (count_at x m k)
  -- so "no figure in the sheet falls";
  pub no_fall : (v : ℕ) → v < sheet_words x → sheet_word r v ≤ sheet_word q v
  -- "and pass never becomes overdrawn": what passed passes,
  pub passes : number_of a ≡ 0 → number_of b ≡ 0
  -- and what is overdrawn at a node was overdrawn before, at one that is not above it.
  pub overdrawn : number_of b ≡ 13 → (number_of a ≡ 13) × (place_of a ≤ place_of b)

-- "a change to one type's opening stock changes no word of the sheet that belongs to another type"
pub record OthersStay (j : ℕ) (x : Shape) (r q : List ℕ) : Type 0 where
  pub effects_stay : EffectsStay x r q
  pub rights_stay : (m k : ℕ) → m < x.methods → k < x.types → (k ≡ j → ⊥) → sheet_word r (rights_at x m k) ≡ sheet_word q (rights_at x m k)
  pub counts_stay : (m k : ℕ) → m < x.methods → k < x.types → (k ≡ j → ⊥) → sheet_word r (count_at x m k) ≡ sheet_word q (count_at x m k)
