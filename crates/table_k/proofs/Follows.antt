-- A run given by its choices, and the test that it is one and overdraws.
use Prim.Native.Nat.{ℕ, ◌-◌, ◌<◌}
use mathlib.Core.Path.{◌≡◌, refl, subst}
use mathlib.Core.Bool.{Bool, true, false, ◌&&◌, not, false≢true}
use mathlib.Core.List.{List, [], ◌∷◌}
use lib.Dec.{ltb, leb, eqb}
use borrow.Author.Tests.{ltb-true, leb-true, eqb-true, not-true}
use Rattle.effect.specs.declared.Stock.{Stock}
use Rattle.effect.specs.Whole.{covers_of}
use Rattle.effect.proofs.Bools.{and_l, and_r, clash}
use Rattle.effect.proofs.Coordinate.{covers_complete}
use Rattle.model.specs.Machine.{Frame, frame, At, Run, stay, more, along, enter, again}
use Rattle.model.specs.Stocks.{Does, plain, grant, draw, done, Covered}
use Rattle.model.specs.Program.{doings}
use Rattle.graph_tables.specs.declared.Tables.{Tables}
use Rattle.graph_tables.specs.Trailer.{tables_of}
use Rattle.graph_tables.specs.Kinds.{draw_kind, call_kind, return_kind}
use Rattle.graph_tables.specs.Fields.{entry_of, node_kind, node_count, flow_from, flow_to, call_node, call_method}
use Rattle.graph_nodes.specs.Nodes.{does_in, opening_in}
use Rattle.graph_nodes.specs.Program.{program_of, Overdrawing}

-- What the runs of the table choose at a step: the flow row to go along, the call row to enter by, or the same method again. None of them
-- goes back from a call or throws.
pub data Choice : Type 0 where
  flow : ℕ → Choice
  call : ℕ → Choice
  repeat : Choice

-- the draw is not covered
unfoldable pub overdraws : Does → Stock → Bool
overdraws plain s = false
overdraws (grant t p m) s = false
overdraws (draw t p) s = not (covers_of s t p)

not_covered : (d : Does) (s : Stock) → overdraws d s ≡ true → Covered d s → ⊥
unfolding overdraws
not_covered plain s h c = false≢true h
not_covered (grant t p m) s h c = false≢true h
not_covered (draw t p) s h c = clash (covers_of s t p) (covers_complete s t p c) (not-true _ h)

both : (a b : Bool) → a && b ≡ true → (a ≡ true) × (b ≡ true)
both a b h = (and_l a b h, and_r a b h)

-- a row that stands in its table, and what it names
below : (n m a b : ℕ) → ltb n m && eqb a b ≡ true → (n < m) × (a ≡ b)
below n m a b h = let e = both (ltb n m) (eqb a b) h in (ltb-true n m e.0, eqb-true a b e.1)

module _ (f : List ℕ) where
  abbrev t : Tables
  t = tables_of f

  -- node n is plain, a grant or a draw; it has the kind
  abbrev pub goes : ℕ → Bool
  goes n = ltb n t.nodes && leb (node_kind f t n) draw_kind

  abbrev pub is_kind : ℕ → ℕ → Bool
  is_kind kind n = ltb n t.nodes && eqb (node_kind f t n) kind

  -- row k of the flow, of the calls, is one from n
  abbrev pub flows : ℕ → ℕ → Bool
  flows k n = ltb k t.flows && eqb (flow_from f t k) n

  abbrev pub calls : ℕ → ℕ → Bool
  calls k n = ltb k t.calls && eqb (call_node f t k) n

  -- From the node n with the open calls σ and the stock s, the choices lead to the node z, and overdraw there.
  unfoldable pub follows : ℕ → List Choice → ℕ → List Frame → Stock → Bool
  follows z [] n σ s = eqb n z && overdraws (does_in f t n) s
  follows z (flow k ∷ c) n σ s = goes n && flows k n && follows z c (flow_to f t k) σ (done (does_in f t n) s)
  follows z (call k ∷ c) n σ s = is_kind call_kind n && calls k n && follows z c (entry_of f (call_method f t k)) (frame n (call_method f t k) (node_count f t n) ∷ σ) s
  follows z (repeat ∷ c) n [] s = false
  follows z (repeat ∷ c) n (frame d m r ∷ σ) s = is_kind return_kind n && ltb 1 r && follows z c (entry_of f m) (frame d m (r - 1) ∷ σ) s

  abbrev Gets : ℕ → List Frame → Stock → Type 0
  Gets n σ s = Run (program_of f).graph (doings (program_of f)) (program_of f).opening (At n σ s)

  leads : (z : ℕ) (c : List Choice) (n : ℕ) (σ : List Frame) (s : Stock) → Gets n σ s → follows z c n σ s ≡ true → Overdrawing f z
  unfolding follows
  leads z [] n σ s p h =
      let e = both (eqb n z) _ h in
      subst (Overdrawing f) (eqb-true n z e.0) (s, (σ, p), not_covered (does_in f t n) s e.1)
  leads z (flow k ∷ c) n σ s p h =
      let e = both (goes n && flows k n) _ h in
      let g = both (goes n) (flows k n) e.0 in
      let i = both (ltb n t.nodes) _ g.0 in
      let r = below k t.flows (flow_from f t k) n g.1 in
      leads z c (flow_to f t k) σ (done (does_in f t n) s) (more p (along (ltb-true n t.nodes i.0, leb-true (node_kind f t n) draw_kind i.1) (k, r.0, r.1, refl))) e.1
  leads z (call k ∷ c) n σ s p h =
      let e = both (is_kind call_kind n && calls k n) _ h in
      let g = both (is_kind call_kind n) (calls k n) e.0 in
      let r = below k t.calls (call_node f t k) n g.1 in
      leads z c _ _ s (more p (enter (below n t.nodes (node_kind f t n) call_kind g.0) (k, r.0, r.1, refl))) e.1
  leads z (repeat ∷ c) n [] s p h = absurd (false≢true h)
  leads z (repeat ∷ c) n (frame d m r ∷ σ) s p h =
      let e = both (is_kind return_kind n && ltb 1 r) _ h in
      let g = both (is_kind return_kind n) (ltb 1 r) e.0 in
      leads z c _ _ s (more p (again (below n t.nodes (node_kind f t n) return_kind g.0) (ltb-true 1 r g.1))) e.1

  -- Choices that pass the test are a run that overdraws at z.
  pub overdrawn_by : (z : ℕ) (c : List Choice) → follows z c (entry_of f 0) [] (opening_in f t) ≡ true → Overdrawing f z
  overdrawn_by z c h = leads z c (entry_of f 0) [] (opening_in f t) stay h
