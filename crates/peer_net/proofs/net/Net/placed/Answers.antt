use Rattle.std.proofs.Common.{arith}
use Rattle.peer_channels.proofs.lemmas.Starts.{first_place}
use Rattle.peer_machine.specs.Run.{net_after}
use Rattle.peer_net.proofs.Playing.{lawful_node, lawful_place}
use Rattle.peer_net.proofs.Starting.{start_few}
use Rattle.peer_net.proofs.net.Net.placed.Goals as goal

pub overflow_add-result : goal.overflow_add-result
overflow_add-result g c =
    let lawful = rw (← c.self.view_is) at c.requires in
    let node = lawful_node g.P.Protocol.rules c.self.inside.graph
    (net_after g.P.Protocol.rules c.self.inside.graph c.self.inside.trace.items) c.args.event
    lawful in
    let few = start_few _ _ c.self.invariant.1.shows.queues.ports _ node.0 node.1 in
    let v = c.node_of-v.ensures in
    let start = rw v at c.start.ensures in
    omega (arith, few, v, start)

pub returns-clause-placed : goal.returns-clause-placed
returns-clause-placed g c =
    let lawful = rw (← c.self.view_is) at c.requires in
    let node = lawful_node g.P.Protocol.rules c.self.inside.graph
    (net_after g.P.Protocol.rules c.self.inside.graph c.self.inside.trace.items) c.args.event
    lawful in
    let place = first_place _ _ c.self.invariant.1.shows.queues.ports _ node.0 node.1 in
    let v = c.node_of-v.ensures in
    let start = rw v at c.start.ensures in
    rw (← c.self.view_is)
    (record {
      event = lawful_place g.P.Protocol.rules c.self.inside.graph
          (net_after g.P.Protocol.rules c.self.inside.graph c.self.inside.trace.items) c.args.event
          lawful;
      base = omega (arith, v, start, place);
    })
