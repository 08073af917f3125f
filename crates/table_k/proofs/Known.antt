-- Every row of the table, and beside it, is true. The proof is one computation, so it opens all that check and the runs are defined by.
use Prim.Native.Nat.{ℕ}
use mathlib.Core.Path.{◌≡◌, refl}
use mathlib.Core.Bool.{true, cond, ◌&&◌}
use mathlib.Core.List.{List, [], ◌∷◌, ◌++◌}
use lib.ListN.{replicate}
use lib.Dec.{eqb}
use Rattle.words.specs.Bytes.{byte_at, word_at}
use Rattle.words.specs.Lowest.{lowest}
use Rattle.words.specs.Turn.{in_turn}
use Rattle.effect.specs.Whole.{normal_of, nothing_done, draw_of, grant_of, apply_of, then_of, both_of, at_most_of, stock_at_most_of, fails_of, stock_fails_of, covers_of}
use Rattle.effect.proofs.Bools.{and_l, and_r}
use Rattle.effect.specs.Meaning.{with_at, replaced, one_taken}
use Rattle.effect.proofs.Compute.{less, left, count_after, rights_after, norm_drop, then_cap, sum_drop, rank, larger_drop, count_at_most, within, normal_form, normal_one, idle, drawn, granted, apply_one, then_one, both_one, at_most_one, held_at_most, covers_held}
use Rattle.model.specs.Stocks.{done, step_of}
use Rattle.model.specs.Rounds.{lowest_rounds, whole_rounds, earlier_rounds}
use Rattle.graph_tables.specs.Trailer.{trailer_at, trailer, tables_of}
use Rattle.graph_tables.specs.Fields.{entry_of, node_method, node_kind, node_number, node_count, node_rights, node_line, flow_from, flow_to, call_node, call_method, parent_of, catch_from, catch_exception, catch_to, opening_rights, opening_count}
use Rattle.graph_tables.specs.Family.{climb, nearest}
use Rattle.graph_refuse.specs.Bad.{above, not_above, flow_row, catch_row, count_bad, length_bad, entry_bad, out_of_range, unused_set, node_bad, flow_bad, call_bad, parent_bad, kin, throws_other, catch_bad, uncalled, opening_bad}
use Rattle.graph.specs.Judge.{judge_rows, judge_in}
use Rattle.graph_rows.specs.Rows.{first_row, stretch_of, has_own}
use Rattle.graph_nodes.specs.Nodes.{does_in, opening_in}
use Rattle.sheet_layout.specs.Layout.{method_at, exit_at, node_at, sheet_words, sheet_bytes, block_size, block_at}
use Rattle.sheet.specs.Read.{stock_at, effect_at, marked}
use Rattle.sheet_formed.specs.Ill.{some_word, counts_fit, ill_block}
use Rattle.rule_rounds.specs.Rounds.{whole_of, rounds_of}
use Rattle.rule_ask.specs.Gives.{goes_in, stepped_in, called_in}
use Rattle.rule_ask.specs.Walk.{rows_walk, leaving_walk, start_walk, entry_walk, flow_walk, end_walk, node_walk, after_walk, into_walk, thrown_walk, called_walk, table_walk, tables_walk, sheet_walk}
use Rattle.rule_test.specs.Keys.{lessened, least_key}
use Rattle.accept_draws.specs.Draws.{uncovered_at}
use Rattle.accept.specs.Check.{whole_sheet, judged_sheet, check_of}
use Rattle.table_k.specs.File.{words, node_rows, pairs, triples, distance, file_bytes}
use Rattle.table_k.specs.Table.{a_with, revoked, without_right, never_returns, table, own_row_first, beside}
use Rattle.table_k.specs.Known.{AllKnown}
use Rattle.table_k.proofs.Follows.{flow, call, repeat, overdraws, follows}
use Rattle.table_k.proofs.Truth.{Certificate, has_these, words_of, test, tests, all_true}

-- File A is the 68 bytes that the document gives, with nodes that name no line, eight kinds that have no parent, and so a longer distance.
pub a_bytes : file_bytes (a_with 2 2)
    ≡ 0x00 ∷ 0x00 ∷ 0x03 ∷ 0x00
    ∷ 0x00 ∷ 0x01 ∷ 0x00 ∷ 0x02 ∷ 0x01 ∷ 0x01 ∷ 0x00 ∷ 0x00
    ∷ 0x00 ∷ 0x03 ∷ 0x00 ∷ 0x02 ∷ 0x00 ∷ 0x00 ∷ 0x00 ∷ 0x00
    ∷ 0x00 ∷ 0x04 ∷ 0x00 ∷ 0x00 ∷ 0x00 ∷ 0x00 ∷ 0x00 ∷ 0x00
    ∷ 0x01 ∷ 0x02 ∷ 0x00 ∷ 0x00 ∷ 0x01 ∷ 0x01 ∷ 0x00 ∷ 0x00
    ∷ 0x01 ∷ 0x04 ∷ 0x00 ∷ 0x00 ∷ 0x00 ∷ 0x00 ∷ 0x00 ∷ 0x00
    ∷ 0x00 ∷ 0x00 ∷ 0x01 ∷ 0x00 ∷ 0x01 ∷ 0x00 ∷ 0x02 ∷ 0x00 ∷ 0x03 ∷ 0x00 ∷ 0x04 ∷ 0x00
    ∷ 0x01 ∷ 0x00 ∷ 0x01 ∷ 0x00
    ∷ 0xff ∷ 0xff ∷ 0xff ∷ 0xff ∷ 0xff ∷ 0xff ∷ 0xff ∷ 0xff
    ∷ 0x00 ∷ 0x00 ∷ 0x00 ∷ 0x00
    ∷ 0x02 ∷ 0x00 ∷ 0x05 ∷ 0x00 ∷ 0x03 ∷ 0x00 ∷ 0x01 ∷ 0x00 ∷ 0x00 ∷ 0x00 ∷ 0x01 ∷ 0x00 ∷ 0x48 ∷ 0x00
    ∷ []
unfolding words node_rows pairs triples distance file_bytes a_with
a_bytes = refl

-- The words of a sheet's blocks, for one type: a marked stock, a marked effect, and an exit or a node with no mark.
abbrev held : ℕ → ℕ → List ℕ
held rights count = 1 ∷ rights ∷ count ∷ []

abbrev effect : ℕ → ℕ → ℕ → ℕ → List ℕ
effect keepin keepmax cap drop = 1 ∷ keepin ∷ keepmax ∷ cap ∷ drop ∷ []

abbrev unmarked : List ℕ
unmarked = replicate 5 0

-- a node before which nothing is done
abbrev idle_node : List ℕ
idle_node = effect 0 0xffff 255 0

-- a method's stock and its return; no exception leaves a method of the table, so the other eight exits have no mark
abbrev method : List ℕ → List ℕ → List ℕ
method stock return = stock ++ return ++ replicate 40 0

-- File A's sheet: what is granted, the least that method 1 is entered with, and what is left at the end.
abbrev a_sheet : ℕ → ℕ → ℕ → List ℕ
a_sheet granted least left =
    words
    (method (held 0 0) (effect 0x0101 0x0101 left 256)
    ++ method (held 0x0101 least) (effect 0 0xffff 255 1)
    ++ idle_node
    ++ effect 0x0101 0x0101 granted 256
    ++ effect 0x0101 0x0101 left 256
    ++ idle_node
    ++ effect 0 0xffff 255 1)

-- By the number of the row, the sheet and the choices; a row on effects needs none.
certificates : List (ℕ × Certificate)
certificates =
    (1, (a_sheet 2 1 0, []))
    -- the grant, the call, two rounds, and the draw of the third
    ∷ (2, (a_sheet 2 0 0, flow 0 ∷ call 0 ∷ flow 2 ∷ repeat ∷ flow 2 ∷ repeat ∷ []))
    ∷ (3, (a_sheet 255 255 255, []))
    ∷ (9, (words (method (held 0x0101 255) unmarked ++ idle_node ++ effect 0x0101 0x0101 0 256), flow 0 ∷ []))
    ∷ (10, (words (method (held 0x0101 255) unmarked ++ idle_node), []))
    ∷ (11, (words (method (held 0 0) unmarked ++ method (held 0 0) unmarked ++ idle_node ++ unmarked ++ idle_node), []))
    ∷ (12, (words (method (held 0 0) idle_node ++ idle_node ++ idle_node ++ unmarked), []))
    ∷ []

find : List (ℕ × Certificate) → ℕ → Certificate
find [] n = ([], [])
find (c ∷ d) n = cond (eqb c.0 n) c.1 (find d n)

tested : tests (find certificates) table && tests (find certificates) beside ≡ true
unfolding byte_at word_at lowest in_turn
    less left count_after rights_after norm_drop then_cap sum_drop rank larger_drop count_at_most within normal_form normal_one idle drawn granted apply_one then_one both_one at_most_one held_at_most covers_held
    normal_of nothing_done draw_of grant_of apply_of then_of both_of at_most_of stock_at_most_of fails_of stock_fails_of covers_of with_at replaced one_taken done step_of lowest_rounds whole_rounds earlier_rounds
    trailer_at trailer tables_of entry_of node_method node_kind node_number node_count node_rights node_line flow_from flow_to call_node call_method parent_of catch_from catch_exception catch_to opening_rights opening_count
    climb nearest above not_above flow_row catch_row count_bad length_bad entry_bad out_of_range unused_set node_bad flow_bad call_bad parent_bad kin throws_other catch_bad uncalled opening_bad judge_rows judge_in
    first_row stretch_of has_own does_in opening_in method_at exit_at node_at sheet_words sheet_bytes block_size block_at
    stock_at effect_at some_word counts_fit ill_block whole_of rounds_of
    marked goes_in stepped_in called_in rows_walk leaving_walk start_walk entry_walk flow_walk end_walk node_walk after_walk into_walk thrown_walk called_walk table_walk tables_walk sheet_walk lessened least_key
    uncovered_at whole_sheet judged_sheet check_of
    words node_rows pairs triples distance file_bytes a_with revoked without_right never_returns table own_row_first beside overdraws follows has_these words_of test tests certificates find
tested = refl

-- K1 to K11 hold.
pub all_known : AllKnown table
all_known = all_true (find certificates) table (and_l (tests (find certificates) table) _ tested)

-- And of a throw with a row for its kind and for its parent, the parent's handler is not reached.
pub beside_known : AllKnown beside
beside_known = all_true (find certificates) beside (and_r (tests (find certificates) table) _ tested)
