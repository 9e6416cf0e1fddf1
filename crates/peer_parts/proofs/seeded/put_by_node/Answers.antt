use Rattle.peer_parts.proofs.Printing.{nodes_printed}
use Rattle.peer_parts.proofs.seeded.put_by_node.Goals as goal

pub returns : goal.returns
returns g c =
    let r = g.P.Protocol.rules in
    let ran = c.in_ok-run_followed_by_seed.ensures in
    nodes_printed r g.P.Spoken.words g.P.Ends.has_ended c.args.form c.args.front.now c.args.columns.now c.args.graph.now c.in_ok-copy.copy
    c.args.setup c.args.seed _ _ c.in_ok-copy.ensures ran.run _ c.all.result.now c.args.text.now.items c.put_nodes.new.text.items c.put_nodes.result
    ran.kept c.all.ensures c.put_nodes.ensures
