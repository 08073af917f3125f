-- File A's listing, byte for byte, by computation: two sweeps write its sheet, a third finds nothing to lower.
use Prim.Native.Nat.{ℕ}
use mathlib.Core.Path.{◌≡◌, refl, subst, ◌∙◌}
use mathlib.Core.Bool.{true, false}
use mathlib.Core.List.{List}
use lib.ListN.{length, replicate}
use native.Mathlib.Omega.{arith}
use Rattle.words.specs.Bytes.{byte_at, word_at}
use Rattle.words.specs.Lowest.{lowest}
use Rattle.words.specs.Turn.{in_turn}
use Rattle.words.specs.Write.{bytes_of}
use Rattle.words_digits.specs.Text.{joined}
use Rattle.words_digits.specs.Digits.{place_text, decimal}
use Rattle.effect.specs.Whole.{nothing_done, draw_of, grant_of, apply_of, then_of, both_of, lower_of, at_most_of, stock_at_most_of, covers_of}
use Rattle.effect.proofs.Compute.{less, left, count_after, rights_after, norm_drop, then_cap, sum_drop, rank, larger_drop, count_at_most, within, normal_form, idle, drawn, granted, apply_one, then_one, both_one, lower_held, at_most_one, held_at_most, covers_held}
use Rattle.model.specs.Stocks.{step_of}
use Rattle.answer.specs.declared.Answer.TheVariants.{Pass}
use Rattle.model.specs.Rounds.{lowest_rounds, whole_rounds, earlier_rounds}
use Rattle.graph_tables.specs.Trailer.{trailer_at, trailer, tables_of}
use Rattle.graph_tables.specs.Fields.{entry_of, node_method, node_kind, node_number, node_count, node_rights, flow_from, flow_to, call_node, call_method, parent_of, opening_rights, opening_count}
use Rattle.graph_refuse.specs.Bad.{above, not_above, flow_row, count_bad, length_bad, entry_bad, out_of_range, unused_set, node_bad, flow_bad, call_bad, parent_bad, uncalled, opening_bad}
use Rattle.graph.specs.Judge.{judge_rows, judge_in, judge_of}
use Rattle.graph.specs.Judgement.{shape_of, shape_for, judged_of}
use Rattle.graph_rows.specs.Rows.{first_row, stretch_of}
use Rattle.graph_nodes.specs.Nodes.{does_in, opening_in}
use Rattle.sheet_layout.specs.Layout.{method_at, exit_at, node_at, sheet_words, sheet_bytes}
use Rattle.sheet.specs.Read.{stock_at, effect_at, marked}
use Rattle.sheet.specs.Write.{stock_word, effect_word}
use Rattle.sheet.specs.Under.{effect_under, stock_under}
use Rattle.rule_rounds.specs.Rounds.{whole_of, rounds_of}
use Rattle.rule_ask.specs.Gives.{goes_in, stepped_in, called_in}
use Rattle.rule_ask.specs.Walk.{rows_walk, leaving_walk, start_walk, entry_walk, flow_walk, end_walk, node_walk, after_walk, into_walk, thrown_walk, called_walk, table_walk, tables_walk, sheet_walk}
use Rattle.accept_draws.specs.Draws.{uncovered_at, verdict_of}
use Rattle.engine_lower.specs.Lower.{effect_to, stock_to}
use Rattle.engine_row.specs.Lowers.{sheet_of, wrote_of, lowers}
use Rattle.engine_sweep.specs.Sweep.{sweep_of}
use Rattle.work.specs.Swept.{unswept, again}
use Rattle.work.specs.Meaning.{WorksOut}
use Rattle.work.proofs.Sweeping.{answers}
use Rattle.listing_first.specs.Listing.{first_line, count_text, stock_line, node_lines, listing_of}
use Rattle.listing.specs.Lists.{text_of, Prints, whole}
use Rattle.listing.proofs.Only.{one_text}
use Rattle.table_k.specs.File.{words, node_rows, pairs, triples, distance, file_bytes}
use Rattle.table_k.specs.Table.{a_with}
use Rattle.listing_file_a.specs.Printed.{file_a, printed}

blank : List ℕ
blank = replicate 242 0

-- what the first sweep leaves, and the second
one : List ℕ
one = sheet_of (sweep_of file_a (tables_of file_a) (shape_of (tables_of file_a)) false blank)

two : List ℕ
two = sheet_of (sweep_of file_a (tables_of file_a) (shape_of (tables_of file_a)) true one)

-- All that is computed: the file passes, the sheet's length, the third sweep is content, the verdict, and the text.
record Computed : Type 0 where
  passed : judge_of file_a ≡ Pass
  small : length file_a ≡ 86
  long : length blank ≡ sheet_bytes (shape_of (tables_of file_a))
  room : length blank ≡ sheet_bytes (judged_of file_a).shape
  content : wrote_of (sweep_of file_a (tables_of file_a) (shape_of (tables_of file_a)) false two) ≡ false
  verdict : verdict_of file_a (tables_of file_a) (shape_of (tables_of file_a)) two ≡ Pass
  text : text_of file_a Pass two ≡ printed

computed : Computed
unfolding byte_at word_at lowest joined place_text decimal
    less left count_after rights_after norm_drop then_cap sum_drop rank larger_drop count_at_most within normal_form idle drawn granted apply_one then_one both_one lower_held at_most_one held_at_most covers_held
    nothing_done draw_of grant_of apply_of then_of both_of lower_of at_most_of stock_at_most_of covers_of step_of lowest_rounds whole_rounds earlier_rounds
    trailer_at trailer tables_of entry_of node_method node_kind node_number node_count node_rights flow_from flow_to call_node call_method parent_of opening_rights opening_count
    above not_above flow_row count_bad length_bad entry_bad out_of_range unused_set node_bad flow_bad call_bad parent_bad uncalled opening_bad judge_rows judge_in
    first_row stretch_of does_in opening_in method_at exit_at node_at sheet_words sheet_bytes
    stock_at effect_at bytes_of stock_word effect_word whole_of rounds_of
    marked goes_in stepped_in called_in effect_under stock_under uncovered_at effect_to stock_to in_turn
    rows_walk leaving_walk start_walk entry_walk flow_walk end_walk node_walk after_walk into_walk thrown_walk called_walk table_walk tables_walk sheet_walk lowers sweep_of
    first_line count_text stock_line node_lines listing_of shape_for
    words node_rows pairs triples distance file_bytes a_with blank one two
computed = record { passed = refl; small = refl; long = refl; room = refl; content = refl; verdict = refl; text = refl }

worked : WorksOut file_a blank two Pass
unfolding blank one two
worked =
    subst (WorksOut file_a blank two) computed.verdict
    (answers
    (record { passed = computed.passed; own = refl; shaped = refl; long = computed.long })
    (record { swept = again true (again false unswept); backwards = false; content = computed.content }))

-- Of file A the program prints these bytes and no others.
pub file_a_lem : {text : List ℕ} → Prints file_a text → text ≡ printed
file_a_lem p = one_text p (whole (omega (arith, computed.small)) computed.room worked) ∙ computed.text
