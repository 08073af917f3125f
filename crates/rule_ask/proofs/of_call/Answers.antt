use mathlib.Core.Path.{ap, ◌∙◌}
use mathlib.Core.Bool.{◌&&◌}
use Rattle.graph_tables.specs.Fields.{node_count}
use Rattle.rule_rounds.specs.Rounds.{rounds_of}
use Rattle.sheet_layout.specs.Layout.{node_at, exit_at}
use Rattle.sheet.specs.Read.{marked, effect_at}
use Rattle.rule_ask.specs.Gives.{called_in}
use Rattle.rule_ask.proofs.of_call.Goals as goal

pub returns : goal.returns
unfolding called_in
returns c =
    let a = c.args in
    let n = c.call_node-node.ensures in
    let m = c.call_method-method.ensures in
    let p = c.node_at-w.ensures ∙ ap (node_at a.x) n in
    let q = c.exit_at-v.ensures ∙ ap (λ j. exit_at a.x j 0) m in
    let b = c.is_marked-marked.ensures ∙ ap (marked a.s.now) p in
    let r = c.is_marked-returns.ensures ∙ ap (marked a.s.now) q in
    let e = c.effect-call.ensures ∙ ap (effect_at a.s.now a.x.types) p in
    let o = c.effect-exit.ensures ∙ ap (effect_at a.s.now a.x.types) q in
    let k = c.node_count-repeats.ensures.0 ∙ ap (node_count a.g.now.file.now a.g.now.tables) n in
    let g = c.of_call.ensures ∙ (λ i. rounds_of (e i) (b i && r i) (o i) (k i)) in
    λ i. record { node = n i; method = m i; marked = b i; returns = r i; rounds = g i }
