use Rattle.boruvka.proofs.Bounds.{bound_is}
use Rattle.boruvka.proofs.bound.message_bound.Goals as goal

pub returns : goal.returns
returns c =
    bound_is c.args.graph.now c.nodes-n.result c.links.result c.floor_log2-k.result c.nodes-n.ensures.graph c.nodes-n.ensures.nodes c.links.ensures
    c.floor_log2-k.ensures
