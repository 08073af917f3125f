-- What holds of the sheet all along, and what one lowering does to it.
use Prim.Native.Nat.{ℕ, ◌<◌}
use mathlib.Core.Path.{◌≡◌}
use mathlib.Core.Bool.{Bool, true, false, cond}
use mathlib.Core.List.{List}
use lib.ListN.{length, get_or}
use Rattle.answer.specs.declared.Answer.TheVariants.{Pass}
use Rattle.effect.specs.declared.Stock.{Stock}
use Rattle.effect.specs.declared.Effect.{Effect}
use Rattle.effect.specs.Whole.{normal_of}
use Rattle.effect.proofs.Potential.{pot_of, pot_stock}
use Rattle.model.proofs.Attained.{Attained}
use Rattle.graph_tables.specs.Trailer.{tables_of}
use Rattle.graph.specs.Judge.{judge_of}
use Rattle.graph.specs.Judgement.{shape_of}
use Rattle.graph_nodes.proofs.Setting.{setting}
use Rattle.sheet_layout.specs.declared.Shape.{Shape}
use Rattle.sheet_layout.specs.Layout.{sheet_bytes, block_count, block_at, is_stock}
use Rattle.sheet.specs.Read.{stock_at, effect_at, marked}
use Rattle.sheet.proofs.Back.{EffectFits, StockFits}
use Rattle.sheet.proofs.Potential.{potential}
use Rattle.sheet_formed.specs.Ill.{counts_fit, first_ill}
use Rattle.sheet_formed.specs.Sheet.{sheet_in}

-- what may stand in a marked block of a sheet of t types
pub record Stands (t : ℕ) (e : Effect) : Type 0 where
  pub normal : normal_of e ≡ true
  pub fits : EffectFits t e

pub record StockStands (t : ℕ) (h : Stock) : Type 0 where
  pub counts : counts_fit h ≡ true
  pub fits : StockFits t h

-- a block's number: of a marked one the potential of what it says; an unmarked one stands above every marked one
unfoldable pub rank_of : Shape → ℕ → List ℕ → ℕ
rank_of x b s =
    cond (marked s (block_at x b)) (cond (is_stock x b) (pot_stock (stock_at s x.types (block_at x b))) (pot_of (effect_at s x.types (block_at x b))))
    1000000

-- the number that falls with each change
unfoldable pub height : Shape → List ℕ → ℕ
height x s = potential (rank_of x) x s

-- The sheet has its length, is of bytes, has no ill-formed block, and what it says runs bring.
module _ (f : List ℕ) (pass : judge_of f ≡ Pass) where
  pub record Good (s : List ℕ) : Type 0 where
    pub long : length s ≡ sheet_bytes (shape_of (tables_of f))
    pub bytes : (i : ℕ) → get_or s i 0 < 256
    pub whole : first_ill s (shape_of (tables_of f)) ≡ block_count (shape_of (tables_of f))
    pub attained : Attained (setting f pass) (sheet_in (shape_of (tables_of f)) s)

  -- From s to r: nothing where what was asked was met, else a sheet that is still good and lower.
  pub record Done (s r : List ℕ) (met : Bool) : Type 0 where
    pub idle : met ≡ true → r ≡ s
    pub good : Good r
    pub falls : met ≡ false → height (shape_of (tables_of f)) r < height (shape_of (tables_of f)) s
