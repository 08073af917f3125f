use Prim.Native.Nat.{ℕ}
use mathlib.Core.Path.{◌≡◌, refl}
use borrow.Author.Rules.{rules}
use Rattle.std.proofs.lemmas.Iterator.{cases_from_any, YieldsList-from_range}
use Rattle.graph_tables.specs.Fields.{flow_to}
use Rattle.engine_queue.proofs.Ranges.{none_within}
use Rattle.engine_queue.proofs.leads_back.Goals as goal

pub returns : goal.returns
returns c =
    let a = c.args in
    let back : ℕ → Type 0 = λ j. flow_to a.g.now.file.now a.g.now.tables j ≡ a.n in
    none_within a.z.from a.z.to _ (λ j. back j → ⊥) _
    (cases_from_any _ _ _ back (λ j. back j → ⊥) c.any.ensures.ran (YieldsList-from_range a.z.from a.z.to _ refl refl) (λ j q k. search rules) (λ j q k. search rules))
