-- The blocks stand one after the other and fill the sheet.
use Prim.Native.Nat.{ℕ, zero, suc, ◌+◌, ◌-◌, ◌*◌, ◌/◌, ◌%◌, ◌≤◌, ◌<◌}
use mathlib.Core.Path.{◌≡◌, refl, ap, ◌∙◌}
use mathlib.Core.Bool.{Bool, true, false, cond}
use lib.Dec.{ltb, eqb}
use borrow.Author.Tests.{lt-ltb, le-ltb, ltb-true, ltb-false, eq-eqb, ne_eqb, eqb-true, eqb-false}
use native.Mathlib.Nat.{suc-mul, zero-mul, not-suc-le-zero}
use native.Mathlib.Omega.{arith}
use Rattle.sheet_layout.specs.declared.Shape.{Shape}
use Rattle.sheet_layout.specs.Layout.{stock_size, effect_size, method_at, exit_at, node_at, sheet_words, block_count, is_stock, block_size, block_at}

module _ (x : Shape) (b : ℕ) where
  -- what stands at block b
  pub at_method : b < 10 * x.methods → b % 10 ≡ 0 → block_at x b ≡ method_at x (b / 10)
  unfolding block_at
  at_method h z = simp (lt-ltb b (10 * x.methods) h, eq-eqb (b % 10) 0 z)

  pub at_exit : b < 10 * x.methods → (b % 10 ≡ 0 → ⊥) → block_at x b ≡ exit_at x (b / 10) (b % 10 - 1)
  unfolding block_at
  at_exit h z = simp (lt-ltb b (10 * x.methods) h, ne_eqb (b % 10) 0 z)

  pub at_node : 10 * x.methods ≤ b → block_at x b ≡ node_at x (b - 10 * x.methods)
  unfolding block_at
  at_node h = simp (le-ltb b (10 * x.methods) h)

  pub stock_size_is : is_stock x b ≡ true → block_size x b ≡ stock_size x.types
  unfolding block_size
  stock_size_is q = rw q

  pub effect_size_is : is_stock x b ≡ false → block_size x b ≡ effect_size x.types
  unfolding block_size
  effect_size_is q = rw q

  pub size_pos : 0 < block_size x b
  unfolding block_size
  size_pos = go (is_stock x b)
    where
      go : (c : Bool) → 0 < cond c (stock_size x.types) (effect_size x.types)
      go true = omega arith
      go false = omega arith

  pub size_method : b < 10 * x.methods → b % 10 ≡ 0 → block_size x b ≡ stock_size x.types
  unfolding block_size
  size_method h z = simp (lt-ltb b (10 * x.methods) h, eq-eqb (b % 10) 0 z)

  pub size_exit : (b % 10 ≡ 0 → ⊥) → block_size x b ≡ effect_size x.types
  unfolding block_size
  size_exit z = go (ltb b (10 * x.methods)) refl
    where
      go : (c : Bool) → ltb b (10 * x.methods) ≡ c → block_size x b ≡ effect_size x.types
      go true q = simp (q, ne_eqb (b % 10) 0 z)
      go false q = simp q

  pub size_node : 10 * x.methods ≤ b → block_size x b ≡ effect_size x.types
  unfolding block_size
  size_node h = simp (le-ltb b (10 * x.methods) h)

-- the blocks of a method, its exits and the nodes
module _ (x : Shape) (m : ℕ) (h : m < x.methods) where
  pub block_method : block_at x (10 * m) ≡ method_at x m
  block_method = at_method x (10 * m) (omega arith) (omega arith) ∙ ap (method_at x) (omega arith)

  pub method_size : block_size x (10 * m) ≡ stock_size x.types
  method_size = size_method x (10 * m) (omega arith) (omega arith)

  module _ (e : ℕ) (l : e < 9) where
    pub block_exit : block_at x (10 * m + 1 + e) ≡ exit_at x m e
    block_exit =
        let q : (10 * m + 1 + e) / 10 ≡ m = omega arith in
        let r : (10 * m + 1 + e) % 10 - 1 ≡ e = omega arith in
        at_exit x (10 * m + 1 + e) (omega arith) (λ z. omega arith) ∙ (λ i. exit_at x (q i) (r i))

    pub exit_size : block_size x (10 * m + 1 + e) ≡ effect_size x.types
    exit_size = size_exit x (10 * m + 1 + e) (λ z. omega arith)

pub block_node : (x : Shape) (n : ℕ) → block_at x (10 * x.methods + n) ≡ node_at x n
block_node x n = at_node x (10 * x.methods + n) (omega arith) ∙ ap (node_at x) (omega arith)

pub node_size : (x : Shape) (n : ℕ) → block_size x (10 * x.methods + n) ≡ effect_size x.types
node_size x n = size_node x (10 * x.methods + n) (omega arith)

-- from each place to the next
module _ (x : Shape) where
  first_exit : (m : ℕ) → exit_at x m 0 ≡ method_at x m + stock_size x.types
  unfolding exit_at
  first_exit m = omega (arith, zero-mul (effect_size x.types))

  next_exit : (m e : ℕ) → exit_at x m (suc e) ≡ exit_at x m e + effect_size x.types
  unfolding exit_at
  next_exit m e = omega (arith, suc-mul e (effect_size x.types))

  next_method : (m : ℕ) → method_at x (suc m) ≡ exit_at x m 8 + effect_size x.types
  unfolding exit_at method_at
  next_method m = omega (arith, suc-mul m (10 + 38 * x.types))

  first_node : node_at x 0 ≡ method_at x x.methods
  unfolding node_at
  first_node = omega (arith, zero-mul (effect_size x.types))

  next_node : (n : ℕ) → node_at x (suc n) ≡ node_at x n + effect_size x.types
  unfolding node_at
  next_node n = omega (arith, suc-mul n (effect_size x.types))

  -- a block ends where the next begins
  pub next : (b : ℕ) → block_at x (suc b) ≡ block_at x b + block_size x b
  next b = go (ltb b (10 * x.methods)) refl (eqb (b % 10) 0) refl (eqb (b % 10) 9) refl (ltb (suc b) (10 * x.methods)) refl
    where
      go : (p : Bool) → ltb b (10 * x.methods) ≡ p → (z : Bool) → eqb (b % 10) 0 ≡ z → (n : Bool) → eqb (b % 10) 9 ≡ n
          → (r : Bool) → ltb (suc b) (10 * x.methods) ≡ r → block_at x (suc b) ≡ block_at x b + block_size x b
      go false p z _ n _ r _ =
          let h : 10 * x.methods ≤ b = ltb-false b (10 * x.methods) p in
          let k : suc b - 10 * x.methods ≡ suc (b - 10 * x.methods) = omega arith in
          omega (arith, at_node x b h, size_node x b h, at_node x (suc b) (omega arith) ∙ ap (node_at x) k, next_node (b - 10 * x.methods))
      go true p true z n _ r _ =
          let h : b < 10 * x.methods = ltb-true b (10 * x.methods) p in
          let e : b % 10 ≡ 0 = eqb-true (b % 10) 0 z in
          let q : suc b / 10 ≡ b / 10 = omega arith in
          let s : suc b % 10 - 1 ≡ 0 = omega arith in
          let u : block_at x (suc b) ≡ exit_at x (b / 10) 0 = at_exit x (suc b) (omega arith) (λ y. omega arith) ∙ (λ i. exit_at x (q i) (s i)) in
          omega (arith, at_method x b h e, size_method x b h e, first_exit (b / 10))
      go true p false z false n r _ =
          let h : b < 10 * x.methods = ltb-true b (10 * x.methods) p in
          let e : b % 10 ≡ 0 → ⊥ = eqb-false (b % 10) 0 z in
          let e' : b % 10 ≡ 9 → ⊥ = eqb-false (b % 10) 9 n in
          let q : suc b / 10 ≡ b / 10 = omega arith in
          let s : suc b % 10 - 1 ≡ suc (b % 10 - 1) = omega arith in
          let u : block_at x (suc b) ≡ exit_at x (b / 10) (suc (b % 10 - 1)) = at_exit x (suc b) (omega arith) (λ y. omega arith) ∙ (λ i. exit_at x (q i) (s i)) in
          omega (arith, at_exit x b h e, size_exit x b e, next_exit (b / 10) (b % 10 - 1))
      go true p false z true n true r =
          let h : b < 10 * x.methods = ltb-true b (10 * x.methods) p in
          let e : b % 10 ≡ 0 → ⊥ = eqb-false (b % 10) 0 z in
          let e' : b % 10 ≡ 9 = eqb-true (b % 10) 9 n in
          let s : b % 10 - 1 ≡ 8 = omega arith in
          let q : suc b / 10 ≡ suc (b / 10) = omega arith in
          let u : block_at x (suc b) ≡ method_at x (suc (b / 10)) = at_method x (suc b) (ltb-true (suc b) (10 * x.methods) r) (omega arith) ∙ ap (method_at x) q in
          let v : block_at x b ≡ exit_at x (b / 10) 8 = at_exit x b h e ∙ ap (exit_at x (b / 10)) s in
          omega (arith, size_exit x b e, next_method (b / 10))
      go true p false z true n false r =
          let h : b < 10 * x.methods = ltb-true b (10 * x.methods) p in
          let e : b % 10 ≡ 0 → ⊥ = eqb-false (b % 10) 0 z in
          let e' : b % 10 ≡ 9 = eqb-true (b % 10) 9 n in
          let h' : 10 * x.methods ≤ suc b = ltb-false (suc b) (10 * x.methods) r in
          let s : b % 10 - 1 ≡ 8 = omega arith in
          let q : x.methods ≡ suc (b / 10) = omega arith in
          let k : suc b - 10 * x.methods ≡ 0 = omega arith in
          let u : block_at x (suc b) ≡ node_at x 0 = at_node x (suc b) h' ∙ ap (node_at x) k in
          let w : method_at x x.methods ≡ method_at x (suc (b / 10)) = ap (method_at x) q in
          let v : block_at x b ≡ exit_at x (b / 10) 8 = at_exit x b h e ∙ ap (exit_at x (b / 10)) s in
          omega (arith, size_exit x b e, next_method (b / 10), first_node)

  -- blocks don't overlap: a block ends where a later one begins, or before
  pub apart : (b c : ℕ) → b < c → block_at x b + block_size x b ≤ block_at x c
  apart b zero h = absurd (not-suc-le-zero h)
  apart b (suc c) h = go (eqb b c) refl (apart b c)
    where
      go : (q : Bool) → eqb b c ≡ q → (b < c → block_at x b + block_size x b ≤ block_at x c) → block_at x b + block_size x b ≤ block_at x (suc c)
      go true q ih =
          let e : b ≡ c = eqb-true b c q in
          let u : block_at x (suc b) ≡ block_at x (suc c) = ap (λ (k : ℕ). block_at x (suc k)) e in
          omega (arith, next b)
      go false q ih =
          let ne : b ≡ c → ⊥ = eqb-false b c q in
          let u : block_at x b + block_size x b ≤ block_at x c = ih (omega arith) in
          omega (arith, next c)

  -- the last block ends where the sheet does
  pub at_end : block_at x (block_count x) ≡ sheet_words x
  unfolding sheet_words node_at method_at
  at_end = block_node x x.nodes

  -- every block lies within the sheet
  pub inside : (b : ℕ) → b < block_count x → block_at x b + block_size x b ≤ sheet_words x
  inside b h = rw at_end at (apart b (block_count x) h)
