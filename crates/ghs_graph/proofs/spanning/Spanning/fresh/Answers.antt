use Rattle.ghs_graph.proofs.Growing.{spanned_none}
use Rattle.ghs_graph.proofs.spanning.Spanning.fresh.Goals as goal

pub returns : goal.returns
returns c =
    spanned_none c.args.nodes c.in_ok-roots.roots c.in_ok-tree.tree.items c.in_ok-roots.ensures.count c.in_ok-roots.ensures.alone
    c.in_ok-tree.ensures.items
