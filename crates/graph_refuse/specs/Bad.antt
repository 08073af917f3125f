-- Which counts, lengths and rows are refused: the conditions of the table "What comes back", numbers 2 to 9, 15 and 17.
use Rattle.std.specs.Prelude.{ℕ, ◌+◌, ◌-◌, Bool, false, ◌||◌, ◌&&◌, not, List, [], ◌∷◌, length, get_or, ltb, leb, eqb}
use Rattle.words.specs.Lowest.{lowest}
use Rattle.graph_tables.specs.declared.Tables.{Tables}
use Rattle.graph_tables.specs.Trailer.{trailer}
use Rattle.graph_tables.specs.Kinds.{grant_kind, draw_kind, call_kind, return_kind, throw_kind}
use Rattle.graph_tables.specs.Fields.{entry_of, node_method, node_kind, node_number, node_count, node_rights, flow_from, flow_to, call_node, call_method, parent_of, catch_from, catch_exception, catch_to, opening_count}
use Rattle.graph_tables.specs.Family.{nearest}

-- "Above" compares rows field by field, so no row comes twice.
unfoldable pub above : List ℕ → List ℕ → Bool
above [] s = false
above (a ∷ r) [] = false
above (a ∷ r) (b ∷ s) = ltb b a || (eqb a b && above r s)

-- row k is not above the row before
unfoldable pub not_above : (ℕ → List ℕ) → ℕ → Bool
not_above row k = not (eqb k 0) && not (above (row k) (row (k - 1)))

-- the rows of the flow, the calls and the catches, field by field
unfoldable pub flow_row : List ℕ → Tables → ℕ → List ℕ
flow_row f t k = flow_from f t k ∷ flow_to f t k ∷ []

unfoldable pub call_row : List ℕ → Tables → ℕ → List ℕ
call_row f t k = call_node f t k ∷ call_method f t k ∷ []

unfoldable pub catch_row : List ℕ → Tables → ℕ → List ℕ
catch_row f t k = catch_from f t k ∷ catch_exception f t k ∷ catch_to f t k ∷ []

-- the limits of M, N, F, C, X, T
abbrev pub fewest : ℕ → ℕ
fewest i = get_or (1 ∷ 1 ∷ 0 ∷ 0 ∷ 0 ∷ 1 ∷ []) i 0

abbrev pub most : ℕ → ℕ
most i = get_or (64 ∷ 512 ∷ 1024 ∷ 512 ∷ 512 ∷ 6 ∷ []) i 0

-- 2: a trailer count outside its limits
unfoldable pub count_bad : List ℕ → ℕ → Bool
count_bad f i = ltb (trailer f i) (fewest i) || ltb (most i) (trailer f i)

-- 3: distance is not the sum, or file length is not distance + 14
unfoldable pub length_bad : List ℕ → Tables → Bool
length_bad f t = not (eqb (trailer f 6) t.end) || not (eqb (length f) (trailer f 6 + 14))

-- 4: entry is N or more, or that node names another method
unfoldable pub entry_bad : List ℕ → Tables → ℕ → Bool
entry_bad f t m = leb t.nodes (entry_of f m) || not (eqb (node_method f t (entry_of f m)) m)

-- Grant uses all three fields, draw number and rights, call count, throw number.
abbrev pub uses_number : ℕ → Bool
uses_number kind = eqb kind grant_kind || eqb kind draw_kind || eqb kind throw_kind

abbrev pub uses_count : ℕ → Bool
uses_count kind = eqb kind grant_kind || eqb kind call_kind

abbrev pub uses_rights : ℕ → Bool
uses_rights kind = eqb kind grant_kind || eqb kind draw_kind

-- the method, the kind, the type, the exception or the call count out of range
unfoldable pub out_of_range : Tables → ℕ → ℕ → ℕ → ℕ → Bool
out_of_range t method kind number count =
    leb t.methods method
    || ltb throw_kind kind
    || ((eqb kind grant_kind || eqb kind draw_kind) && leb t.types number)
    || (eqb kind throw_kind && ltb 7 number)
    || (eqb kind call_kind && eqb count 0)

-- an unused field not 0
unfoldable pub unused_set : ℕ → ℕ → ℕ → ℕ → Bool
unused_set kind number count rights =
    (not (uses_number kind) && not (eqb number 0))
    || (not (uses_count kind) && not (eqb count 0))
    || (not (uses_rights kind) && not (eqb rights 0))

-- 5: node: method, kind, type, exception or call count out of range, or an unused field not 0
unfoldable pub node_bad : List ℕ → Tables → ℕ → Bool
node_bad f t n =
    out_of_range t (node_method f t n) (node_kind f t n) (node_number f t n) (node_count f t n)
    || unused_set (node_kind f t n) (node_number f t n) (node_count f t n) (node_rights f t n)

-- the nodes a and b are of two methods
abbrev pub two_methods : List ℕ → Tables → ℕ → ℕ → Bool
two_methods f t a b = not (eqb (node_method f t a) (node_method f t b))

-- 6: flow: an end is N or more, leaves a return or throw, joins two methods, or is not above the row before
unfoldable pub flow_bad : List ℕ → Tables → ℕ → Bool
flow_bad f t k =
    leb t.nodes (flow_from f t k)
    || leb t.nodes (flow_to f t k)
    || eqb (node_kind f t (flow_from f t k)) return_kind
    || eqb (node_kind f t (flow_from f t k)) throw_kind
    || two_methods f t (flow_from f t k) (flow_to f t k)
    || not_above (flow_row f t) k

-- 7: calls: node is N or more or no call, method is M or more, or not above the row before
unfoldable pub call_bad : List ℕ → Tables → ℕ → Bool
call_bad f t k =
    leb t.nodes (call_node f t k)
    || not (eqb (node_kind f t (call_node f t k)) call_kind)
    || leb t.methods (call_method f t k)
    || not_above (call_row f t) k

-- 15: parent neither lower nor 255
unfoldable pub parent_bad : List ℕ → Tables → ℕ → Bool
parent_bad f t e = leb e (parent_of f t e) && not (eqb (parent_of f t e) 255)

-- c is the kind e or an ancestor of it: from e upwards one comes to c
unfoldable pub kin : List ℕ → Tables → ℕ → ℕ → Bool
kin f t e c = eqb (nearest f t (λ a. eqb a c) e) c

-- no row for the exception may stand at the node: neither call nor throw, or a throw, and it is neither "the kind" nor "an ancestor of it"
unfoldable pub throws_other : List ℕ → Tables → ℕ → ℕ → Bool
throws_other f t n exception =
    (not (eqb (node_kind f t n) call_kind) && not (eqb (node_kind f t n) throw_kind))
    || (eqb (node_kind f t n) throw_kind && not (kin f t (node_number f t n) exception))

-- 8: catches: an end is N or more, exception above 7, from neither call nor throw, another exception than the throw's own or an
-- ancestor of it, two methods, or not above the row before
unfoldable pub catch_bad : List ℕ → Tables → ℕ → Bool
catch_bad f t k =
    leb t.nodes (catch_from f t k)
    || leb t.nodes (catch_to f t k)
    || ltb 7 (catch_exception f t k)
    || throws_other f t (catch_from f t k) (catch_exception f t k)
    || two_methods f t (catch_from f t k) (catch_to f t k)
    || not_above (catch_row f t) k

-- some call row names the node
abbrev pub named : List ℕ → Tables → ℕ → Bool
named f t n = ltb (lowest (λ k. eqb (call_node f t k) n) t.calls) t.calls

-- 17: the node is a call and no call row names it
unfoldable pub uncalled : List ℕ → Tables → ℕ → Bool
uncalled f t n = eqb (node_kind f t n) call_kind && not (named f t n)

-- 9: opening count above 255
unfoldable pub opening_bad : List ℕ → Tables → ℕ → Bool
opening_bad f t k = ltb 255 (opening_count f t k)
