-- A sweep leaves a good sheet as it was, or makes it a lower good one; and one that wrote nothing found everything met that the rows ask.
--   sweep_done, settled
use Prim.Native.Nat.{ℕ}
use mathlib.Core.Path.{◌≡◌, refl, sym, ◌∙◌}
use mathlib.Core.Logic.{◌⊎◌, inl, inr, ⊎_elim}
use mathlib.Core.Bool.{Bool, true, false, not, true≢false}
use mathlib.Core.List.{List}
use Rattle.answer.specs.declared.Answer.TheVariants.{Pass}
use Rattle.graph_tables.specs.declared.Tables.{Tables}
use Rattle.graph_tables.specs.Trailer.{tables_of}
use Rattle.graph.specs.Judge.{judge_of}
use Rattle.graph.specs.Judgement.{shape_of}
use Rattle.sheet_layout.specs.declared.Shape.{Shape}
use Rattle.rule_ask.specs.Walk.{Ask, meets}
use Rattle.rule_ask.proofs.Asks.{Asks}
use Rattle.rule_ask.proofs.Keeps.{sheet_keeps}
use Rattle.rule_ask.proofs.Shows.{sheet_shows}
use Rattle.engine_lower.proofs.Good.{Good, Done}
use Rattle.engine_row.specs.Lowers.{sheet_of, wrote_of, lowers}
use Rattle.engine_row.proofs.Brought.{asks_brought}
use Rattle.engine_row.proofs.Done.{brought_done, done_next}
use Rattle.engine_row.proofs.Still.{Wrote, Still, stay, hit, step}
use Rattle.engine_sweep.specs.Sweep.{sweep_of}

module _ (f : List ℕ) (pass : judge_of f ≡ Pass) where
  abbrev t : Tables
  t = tables_of f

  abbrev x : Shape
  x = shape_of t

  pub sweep_done : (backwards : Bool) (s : List ℕ) → Good f pass s → Done f pass s (sheet_of (sweep_of f t x backwards s)) (not (wrote_of (sweep_of f t x backwards s)))
  unfolding sweep_of lowers
  sweep_done backwards s G =
      sheet_keeps f t x sheet_of (lowers x) (λ z. Done f pass s (sheet_of z) (not (wrote_of z)))
      (λ w y z a p q h d. done_next f pass (wrote_of z) (meets x (sheet_of z) a) d (brought_done f pass (asks_brought f pass (sheet_of w) (sheet_of y) p.good q.good h) (sheet_of z) d.good))
      backwards (s, false) (record { idle = λ e. refl; good = G; falls = λ e. absurd (true≢false e) })

module _ (f : List ℕ) (t : Tables) (x : Shape) (s : List ℕ) where
  module _ (backwards : Bool) (idle : wrote_of (sweep_of f t x backwards s) ≡ false) where
    pub settled : (sheet_of (sweep_of f t x backwards s) ≡ s) × ((a : Ask) → Asks f t x s s a → meets x s a ≡ true)
    unfolding sweep_of
    settled = (
      ⊎_elim (λ p. absurd (true≢false (sym p ∙ idle))) (λ q. q.0)
          (sheet_keeps f t x sheet_of (lowers x) (λ z. Wrote x s z ⊎ Still x s z) (λ w y z a p q h. ⊎_elim (λ r. inl (stay x s a z r)) (step x s a z)) backwards (s, false) (inr (refl, refl))),
      λ a h. met a h (meets x s a) refl,
    )
      where
        met : (a : Ask) → Asks f t x s s a → (b : Bool) → meets x s a ≡ b → meets x s a ≡ true
        met a h true m = m
        met a h false m = absurd (true≢false (sym (sheet_shows f t x sheet_of (lowers x) s (Wrote x s) (Still x s) (λ z q. q.0) (stay x s) (step x s) backwards h (hit x s a m) (s, false) (inr (refl, refl))) ∙ idle))
