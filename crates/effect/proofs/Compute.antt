-- The definitions of one type, for proofs that compute an effect: they open them, and rest on nothing else of one type.
unfoldable pub use Rattle.effect_number.specs.Number.{less, left, count_after, rights_after}
unfoldable pub use Rattle.effect_number.specs.Formulas.{norm_drop, then_cap, sum_drop, rank, larger_drop, count_at_most, within}
unfoldable pub use Rattle.effect_one.specs.Single.{idle, apply_one}
unfoldable pub use Rattle.effect_one.specs.Formulas.{normal_form, normal_one, drawn, granted, then_one, both_one, at_most_one, held_at_most, lower_held, covers_held}
