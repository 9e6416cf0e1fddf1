use Rattle.std.proofs.Common.{arith}
use Rattle.peer_network.specs.Events.{event_node}
use Rattle.peer_channels.proofs.lemmas.Starts.{first_place, placed_node}
use Rattle.peer_channels.proofs.channels.Channels.start_of.Goals as goal

pub overflow_sub-result : goal.overflow_sub-result
overflow_sub-result g c =
    let r = c.requires in
    let node = placed_node _ _ r.2 in
    let low = node.0 in
    rw c.node.ensures (omega (arith, low))

pub returns : goal.returns
returns g c =
    let r = c.requires in
    let node = placed_node _ _ r.2 in
    let place = first_place r.0 _ r.1 (event_node c.args.placed.event) node.0 node.1 in
    let base = r.2.base in
    rw c.node.ensures (omega (arith, place, base))

pub overflow_sub-result-2 : goal.overflow_sub-result-2
overflow_sub-result-2 g c =
    let r = c.requires in
    let node = placed_node _ _ r.2 in
    let place = first_place r.0 _ r.1 (event_node c.args.placed.event) node.0 node.1 in
    let base = r.2.base in
    rw c.node.ensures (omega (arith, place, base))
