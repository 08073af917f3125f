use borrow.Author.Rules.{rules}
use Rattle.graph_tables.specs.Fields.{opening_rights, opening_count}
use Rattle.graph_nodes.specs.Nodes.{for_type, opening_in}
use Rattle.graph_nodes.proofs.opening.Goals as goal

pub returns : goal.returns
unfolding opening_in
returns c =
    let f = c.args.g.now.file.now in
    let t = c.args.g.now.tables in
    c.stock_of.ensures (λ k. record { rights = for_type t (opening_rights f t) k; count = for_type t (opening_count f t) k }) (λ k h l q. search rules)
