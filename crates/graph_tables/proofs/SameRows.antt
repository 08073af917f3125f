-- Two files with the same rows: what their fields say in range is the same. What stands past a table's end need not be.
use Prim.Native.Nat.{ℕ, ◌+◌, ◌*◌, ◌≤◌, ◌<◌}
use mathlib.Core.Path.{◌≡◌, sym, ap, ◌∙◌}
use mathlib.Core.List.{List}
use native.Mathlib.Decide.{dec_lt}
use native.Mathlib.Omega.{arith}
use lib.ListN.{length}
use Rattle.words.specs.Bytes.{byte_at, word_at}
use Rattle.graph_tables.specs.declared.Tables.{Tables}
use Rattle.graph_tables.specs.Trailer.{trailer_at, trailer, tables_of}
use Rattle.graph_tables.specs.Fields.{entry_of, node_method, node_kind, node_number, node_count, node_rights, flow_from, flow_to, call_node, call_method, parent_of, catch_from, catch_exception, catch_to, opening_rights, opening_count}

-- the bytes that fields of rows read, but for a node's line and the opening stock, and the trailer's
pub data Read (f : List ℕ) (p : ℕ) : Type 0 where
  of_methods : p < (tables_of f).nodesat → Read f p
  of_node : (n : ℕ) → n < (tables_of f).nodes → (tables_of f).nodesat + 8 * n ≤ p → p < (tables_of f).nodesat + 8 * n + 6 → Read f p
  of_rows : (tables_of f).flowsat ≤ p → p < (tables_of f).openingat → Read f p
  of_trailer : trailer_at f ≤ p → Read f p

pub record SameRows (f g : List ℕ) : Type 0 where
  pub one_length : length f ≡ length g
  pub same_bytes : (p : ℕ) → Read f p → byte_at f p ≡ byte_at g p

-- and the same bytes from the opening stock on
abbrev pub SameOpening : List ℕ → List ℕ → Type 0
SameOpening f g = (p : ℕ) → (tables_of f).openingat ≤ p → byte_at f p ≡ byte_at g p

same_word : (f g : List ℕ) (p : ℕ) → byte_at f p ≡ byte_at g p → byte_at f (p + 1) ≡ byte_at g (p + 1) → word_at f p ≡ word_at g p
unfolding word_at
same_word f g p a b = λ i. a i + 256 * b i

module _ {f g : List ℕ} (A : SameRows f g) where
  same_place : trailer_at f ≡ trailer_at g
  unfolding trailer_at
  same_place = omega (arith, A.one_length)

  -- the trailer says the tables
  pub same_counts : (i : ℕ) → trailer f i ≡ trailer g i
  unfolding trailer
  same_counts i =
      same_word f g _ (A.same_bytes _ (of_trailer (omega arith))) (A.same_bytes _ (of_trailer (omega arith)))
      ∙ ap (λ p. word_at g (p + 2 * i)) same_place

  pub same_tables : tables_of f ≡ tables_of g
  unfolding tables_of
  same_tables = simp same_counts

  read_both : {p : ℕ} → Read g p → Read f p
  read_both (of_methods l) = of_methods (rw same_tables l)
  read_both (of_node n l a b) = of_node n (rw same_tables l) (rw same_tables a) (rw same_tables b)
  read_both (of_rows a b) = of_rows (rw same_tables a) (rw same_tables b)
  read_both (of_trailer a) = of_trailer (rw same_place a)

  pub rows_sym : SameRows g f
  rows_sym = record {
    one_length = sym A.one_length;
    same_bytes = λ p r. sym (A.same_bytes p (read_both r));
  }

  pub opening_sym : SameOpening f g → SameOpening g f
  opening_sym B p a = sym (B p (rw same_tables a))

-- the same fields in each row
pub record SameFields (f g : List ℕ) (t : Tables) : Type 0 where
  pub entry : (m : ℕ) → m < t.methods → entry_of f m ≡ entry_of g m
  pub method : (n : ℕ) → n < t.nodes → node_method f t n ≡ node_method g t n
  pub kind : (n : ℕ) → n < t.nodes → node_kind f t n ≡ node_kind g t n
  pub number : (n : ℕ) → n < t.nodes → node_number f t n ≡ node_number g t n
  pub count : (n : ℕ) → n < t.nodes → node_count f t n ≡ node_count g t n
  pub rights : (n : ℕ) → n < t.nodes → node_rights f t n ≡ node_rights g t n
  pub flow_from_same : (k : ℕ) → k < t.flows → flow_from f t k ≡ flow_from g t k
  pub flow_to_same : (k : ℕ) → k < t.flows → flow_to f t k ≡ flow_to g t k
  pub call_node_same : (k : ℕ) → k < t.calls → call_node f t k ≡ call_node g t k
  pub call_method_same : (k : ℕ) → k < t.calls → call_method f t k ≡ call_method g t k
  pub parent : (e : ℕ) → e < 8 → parent_of f t e ≡ parent_of g t e
  pub catch_from_same : (k : ℕ) → k < t.catches → catch_from f t k ≡ catch_from g t k
  pub catch_exception_same : (k : ℕ) → k < t.catches → catch_exception f t k ≡ catch_exception g t k
  pub catch_to_same : (k : ℕ) → k < t.catches → catch_to f t k ≡ catch_to g t k

pub fields_sym : {f g : List ℕ} {t : Tables} → SameFields f g t → SameFields g f t
fields_sym S = record {
  entry = λ m l. sym (S.entry m l);
  method = λ n l. sym (S.method n l);
  kind = λ n l. sym (S.kind n l);
  number = λ n l. sym (S.number n l);
  count = λ n l. sym (S.count n l);
  rights = λ n l. sym (S.rights n l);
  flow_from_same = λ k l. sym (S.flow_from_same k l);
  flow_to_same = λ k l. sym (S.flow_to_same k l);
  call_node_same = λ k l. sym (S.call_node_same k l);
  call_method_same = λ k l. sym (S.call_method_same k l);
  parent = λ e l. sym (S.parent e l);
  catch_from_same = λ k l. sym (S.catch_from_same k l);
  catch_exception_same = λ k l. sym (S.catch_exception_same k l);
  catch_to_same = λ k l. sym (S.catch_to_same k l);
}

module _ (f g : List ℕ) (A : SameRows f g) where
  node_byte : (n p : ℕ) → n < (tables_of f).nodes → (tables_of f).nodesat + 8 * n ≤ p → p < (tables_of f).nodesat + 8 * n + 6 → byte_at f p ≡ byte_at g p
  node_byte n p l a b = A.same_bytes p (of_node n l a b)

  row_word : (p : ℕ) → (tables_of f).flowsat ≤ p → p + 1 < (tables_of f).openingat → word_at f p ≡ word_at g p
  row_word p a b = same_word f g p (A.same_bytes p (of_rows a (omega arith))) (A.same_bytes (p + 1) (of_rows (omega arith) b))

  pub same_fields : SameFields f g (tables_of f)
  unfolding tables_of entry_of node_method node_kind node_number node_count node_rights flow_from flow_to call_node call_method parent_of catch_from catch_exception catch_to
  same_fields = record {
    entry = λ m l. same_word f g (2 * m) (A.same_bytes _ (of_methods (omega arith))) (A.same_bytes _ (of_methods (omega arith)));
    method = λ n l. node_byte n _ l (omega arith) (omega arith);
    kind = λ n l. node_byte n _ l (omega arith) (omega arith);
    number = λ n l. node_byte n _ l (omega arith) (omega arith);
    count = λ n l. node_byte n _ l (omega arith) (omega arith);
    rights = λ n l. same_word f g _ (node_byte n _ l (omega arith) (omega arith)) (node_byte n _ l (omega arith) (omega arith));
    flow_from_same = λ k l. row_word _ (omega arith) (omega arith);
    flow_to_same = λ k l. row_word _ (omega arith) (omega arith);
    call_node_same = λ k l. row_word _ (omega arith) (omega arith);
    call_method_same = λ k l. row_word _ (omega arith) (omega arith);
    parent = λ e l. A.same_bytes _ (of_rows (omega arith) (omega arith));
    catch_from_same = λ k l. row_word _ (omega arith) (omega arith);
    catch_exception_same = λ k l. row_word _ (omega arith) (omega arith);
    catch_to_same = λ k l. row_word _ (omega arith) (omega arith);
  }

  module _ (B : SameOpening f g) where
    -- a bad node's number may be the kind whose parent is asked for, so this goes past the eight
    pub same_parents : (e : ℕ) → parent_of f (tables_of f) e ≡ parent_of g (tables_of f) e
    unfolding tables_of parent_of
    same_parents e = elim (dec_lt ((tables_of f).parentsat + e) (tables_of f).openingat) [
      | yes l ↦ A.same_bytes _ (of_rows (omega arith) l)
      | no l ↦ B _ (omega arith)
    ]

    -- and of each type's opening stock
    opening_word : (p : ℕ) → (tables_of f).openingat ≤ p → word_at f p ≡ word_at g p
    opening_word p a = same_word f g p (B p a) (B (p + 1) (omega arith))

    pub same_opening_rights : (k : ℕ) → opening_rights f (tables_of f) k ≡ opening_rights g (tables_of f) k
    unfolding opening_rights
    same_opening_rights k = opening_word _ (omega arith)

    pub same_opening_count : (k : ℕ) → opening_count f (tables_of f) k ≡ opening_count g (tables_of f) k
    unfolding opening_count
    same_opening_count k = opening_word _ (omega arith)
