use mathlib.Core.Path.{◌∙◌}
use native.Mathlib.Omega.{arith}
use Rattle.engine_flags.proofs.Flags.{call_inside}
use Rattle.engine_flags.proofs.spread.Goals as goal

pub returns : goal.returns
returns c =
    let on = c.pass_all_on.ensures in
    let off = c.forget.ensures in
    record {
      long = off.long ∙ on.0.long;
      nodes = λ i l w. omega (arith, off.nodes i l, on.0.kept i w);
      calls = λ k l h. omega (arith, off.nodes _ (call_inside c.requires k l).0, on.1 k l h);
      methods = off.methods;
    }
