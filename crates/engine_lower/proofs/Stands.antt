-- What may stand in a block: the operations keep to it, and so do the file's steps and opening stock and the blocks of a
-- well-formed sheet.
use Prim.Native.Nat.{ℕ, zero, suc, ◌+◌, ◌-◌, ◌*◌, ◌≤◌, ◌<◌}
use mathlib.Core.Path.{◌≡◌, refl}
use mathlib.Core.Bool.{Bool, true, false}
use mathlib.Core.List.{List}
use lib.ListN.{get_or}
use lib.Dec.{leb}
use borrow.Author.Tests.{le-leb}
use native.Mathlib.Omega.{arith}
use Rattle.effect.specs.declared.Stock.{Stock}
use Rattle.effect.specs.declared.Effect.{Effect}
use Rattle.effect.specs.Six.{one_at}
use Rattle.effect.specs.Whole.{normal_of, nothing_done, apply_of, then_of, both_of, lower_of}
use Rattle.effect.proofs.Six.{all_i}
use Rattle.effect.proofs.Types.{EffectOf, StockOf, normal_small, nothing_of, then_of_fits, both_of_fits, apply_of_fits, lower_of_fits}
use Rattle.effect.proofs.Laws.{nothing_normal, draw_normal, grant_normal, then_normal, both_normal, normal_at}
use Rattle.effect.proofs.Fields.{idle_fields}
use Rattle.model.specs.Stocks.{permits, Does, plain, grant, draw, step_of}
use Rattle.model.specs.Rounds.{lowest_rounds, whole_rounds, earlier_rounds}
use Rattle.answer.specs.declared.Answer.TheVariants.{Pass}
use Rattle.graph_tables.specs.Trailer.{tables_of}
use Rattle.graph.specs.Judge.{judge_of}
use Rattle.graph_nodes.specs.Nodes.{does_in, opening_in}
use Rattle.graph_nodes.proofs.Types.{step_of_fits, opening_of}
use Rattle.sheet_layout.specs.declared.Shape.{Shape}
use Rattle.sheet_layout.specs.Layout.{method_at, exit_at, node_at, block_count, block_at, is_stock}
use Rattle.sheet_layout.proofs.Blocks.{block_method, block_exit, block_node}
use Rattle.sheet.specs.Read.{mark_at, stock_at, effect_at}
use Rattle.sheet.proofs.Back.{stock_read, effect_read}
use Rattle.sheet_formed.specs.Ill.{counts_fit, first_ill}
use Rattle.sheet_formed.proofs.Judged.{counts_le, block_formed}
use Rattle.sheet_formed.proofs.Types.{fits_of}
use Rattle.engine_lower.proofs.Good.{Stands, StockStands}
use Rattle.engine_lower.proofs.Numbers.{method_stock, node_effect_lem, exit_effect_lem}

-- A normal effect of t types stands, and a stock of t types.
module _ (t : ℕ) (e : Effect) where
  stands : normal_of e ≡ true → EffectOf t e → Stands t e
  stands n p =
      record {
        normal = n;
        fits = record {
          six = p.six;
          keepin = record { words = λ k l. (small k l).0; rest = λ k u l. (idle_fields e k (p.rest k u l)).keepin };
          keepmax = record { words = p.words; rest = λ k u l. (idle_fields e k (p.rest k u l)).keepmax };
          cap = record { words = λ k l. (small k l).1; rest = λ k u l. (idle_fields e k (p.rest k u l)).cap };
          drop = record { words = λ k l. (small k l).2; rest = λ k u l. (idle_fields e k (p.rest k u l)).drop };
        };
      }
    where
      small : (k : ℕ) → k < 6 → (get_or e.keepin k 0 < 65536) × (get_or e.cap k 0 < 65536) × (get_or e.drop k 0 < 65536)
      small k l = normal_small (one_at e k) (normal_at e n k l) (p.words k l)

  types : Stands t e → EffectOf t e
  types p = fits_of t e p.fits

module _ (t : ℕ) (h : Stock) where
  counts_fit_true : ((k : ℕ) → k < 6 → get_or h.counts k 0 ≤ 255) → counts_fit h ≡ true
  unfolding counts_fit
  counts_fit_true p = all_i (λ (k : ℕ). leb (get_or h.counts k 0) 255) (λ k l. le-leb (get_or h.counts k 0) 255 (p k l))

  stock_stands : StockOf t h → StockStands t h
  stock_stands p =
      record {
        counts = counts_fit_true (λ k l. (p.fit k l).1);
        fits = record {
          six = p.six;
          rights = record { words = λ k l. (p.fit k l).0; rest = λ k u l i. (p.rest k u l i).rights };
          counts = record { words = λ k l. omega (arith, (p.fit k l).1); rest = λ k u l i. (p.rest k u l i).count };
        };
      }

  stock_types : StockStands t h → StockOf t h
  stock_types p =
      let f = p.fits in
      record {
        six = f.six;
        fit = λ k l. (f.rights.words k l, counts_le h p.counts k l);
        rest = λ k u l i. record { rights = f.rights.rest k u l i; count = f.counts.rest k u l i };
      }

pub nothing_stands : (t : ℕ) → Stands t nothing_done
nothing_stands t = stands t nothing_done nothing_normal (nothing_of t)

module _ (t : ℕ) (a b : Effect) (p : Stands t a) (q : Stands t b) where
  pub then_stands : Stands t (then_of a b)
  then_stands = stands t (then_of a b) (then_normal a b) (then_of_fits t a b (types t a p) (types t b q))

  pub both_stands : Stands t (both_of a b)
  both_stands = stands t (both_of a b) (both_normal a b) (both_of_fits t a b (types t a p) (types t b q))

pub apply_stands : (t : ℕ) (e : Effect) (h : Stock) → Stands t e → StockStands t h → StockStands t (apply_of e h)
apply_stands t e h p q = stock_stands t (apply_of e h) (apply_of_fits t e h (types t e p) (stock_types t h q))

pub lower_stands : (t : ℕ) (h g : Stock) → StockStands t h → StockStands t g → StockStands t (lower_of h g)
lower_stands t h g p q = stock_stands t (lower_of h g) (lower_of_fits t h g (stock_types t h p) (stock_types t g q))

-- the rounds of a call
lowest_stands : (t : ℕ) (x : Effect) → Stands t x → (j : ℕ) → Stands t (lowest_rounds permits x j)
unfolding lowest_rounds
lowest_stands t x h zero = h
lowest_stands t x h (suc j) =
    both_stands t x (then_of (lowest_rounds permits x j) x) h (then_stands t (lowest_rounds permits x j) x (lowest_stands t x h j) h)

module _ (t : ℕ) (call x : Effect) (c : Stands t call) where
  pub whole_rounds_stands : Stands t x → (r : ℕ) → Stands t (whole_rounds permits call x r)
  unfolding whole_rounds
  whole_rounds_stands h r = then_stands t call (lowest_rounds permits x (r - 1)) c (lowest_stands t x h (r - 1))

  pub earlier_rounds_stands : (marked : Bool) → (marked ≡ true → Stands t x) → (r : ℕ) → Stands t (earlier_rounds permits call marked x r)
  unfolding earlier_rounds
  earlier_rounds_stands marked h zero = c
  earlier_rounds_stands marked h (suc zero) = c
  earlier_rounds_stands false h (suc (suc r)) = c
  earlier_rounds_stands true h (suc (suc r)) =
      both_stands t call (then_of call (lowest_rounds permits x r)) c
      (then_stands t call (lowest_rounds permits x r) c (lowest_stands t x (h refl) r))

-- the steps of the file's nodes, and its opening stock
step_normal : (d : Does) → normal_of (step_of d) ≡ true
unfolding step_of
step_normal plain = nothing_normal
step_normal (grant j p m) = grant_normal j p m
step_normal (draw j p) = draw_normal j

module _ (f : List ℕ) (pass : judge_of f ≡ Pass) where
  pub step_stands : (n : ℕ) → Stands (tables_of f).types (step_of (does_in f (tables_of f) n))
  step_stands n = stands (tables_of f).types (step_of (does_in f (tables_of f) n)) (step_normal (does_in f (tables_of f) n)) (step_of_fits f pass n)

  pub opening_stands : StockStands (tables_of f).types (opening_in f (tables_of f))
  opening_stands = stock_stands (tables_of f).types (opening_in f (tables_of f)) (opening_of f pass)

-- what a marked block says, in a sheet with no ill-formed block
module _ (x : Shape) (s : List ℕ) (whole : first_ill s x ≡ block_count x) where
  module _ (b : ℕ) (l : b < block_count x) (m : mark_at s (block_at x b) ≡ 1) where
    pub block_stands : is_stock x b ≡ false → Stands x.types (effect_at s x.types (block_at x b))
    block_stands q = record { normal = (block_formed x s whole b l).normal q m; fits = effect_read s x.types (block_at x b) }

    pub stock_block_stands : is_stock x b ≡ true → StockStands x.types (stock_at s x.types (block_at x b))
    stock_block_stands q = record { counts = (block_formed x s whole b l).counts q m; fits = stock_read s x.types (block_at x b) }

  pub read_stands : (n : ℕ) → n < x.nodes → mark_at s (node_at x n) ≡ 1 → Stands x.types (effect_at s x.types (node_at x n))
  read_stands n l m =
      let e = block_node x n in
      rw e at (block_stands (10 * x.methods + n) (omega arith) (rw e m) (node_effect_lem x n))

  pub exit_read_stands : (m y : ℕ) → m < x.methods → y < 9 → mark_at s (exit_at x m y) ≡ 1 → Stands x.types (effect_at s x.types (exit_at x m y))
  exit_read_stands m y l k c =
      let e = block_exit x m l y k in
      rw e at (block_stands (10 * m + 1 + y) (omega arith) (rw e c) (exit_effect_lem x m y k))

  pub stock_read_stands : (m : ℕ) → m < x.methods → mark_at s (method_at x m) ≡ 1 → StockStands x.types (stock_at s x.types (method_at x m))
  stock_read_stands m l c =
      let e = block_method x m l in
      rw e at (stock_block_stands (10 * m) (omega arith) (rw e c) (method_stock x m l))
