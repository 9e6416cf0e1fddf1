use Rattle.std.proofs.Common.{◌+◌, List, length, ◌∙◌, ap}
use Rattle.peer_network.specs.declared.event.Event.{Event}
use Rattle.peer_net.specs.NetState.{net_of}
use Rattle.peer_steps.proofs.Lawful.{lawful_node}
use Rattle.peer_steps.proofs.Making.{moment_is}
use Rattle.peer_steps.proofs.moment.moment_at.Goals as goal

pub far_end-requires-clause-low : goal.far_end-requires-clause-low
far_end-requires-clause-low g c = (lawful_node g.P.Protocol.rules c.args.net.now c.args.event c.requires.lawful).0

pub far_end-requires-clause-high : goal.far_end-requires-clause-high
far_end-requires-clause-high g c = rw c.graph.ensures (lawful_node g.P.Protocol.rules c.args.net.now c.args.event c.requires.lawful).1

pub node-requires-clause-low : goal.node-requires-clause-low
node-requires-clause-low g c = rw c.node_of.ensures (lawful_node g.P.Protocol.rules c.args.net.now c.args.event c.requires.lawful).0

pub node-requires-clause-high : goal.node-requires-clause-high
node-requires-clause-high g c = rw c.node_of.ensures (lawful_node g.P.Protocol.rules c.args.net.now c.args.event c.requires.lawful).1

pub returns : goal.returns
returns g c =
    let s = c.args.net.now in
    moment_is g.P.Protocol.rules g.P.Spoken.words s c.args.event _ _ _ _ _ _ _ (ap (λ (es : List Event). length es + 1) c.trace.ensures.trace)
    (rw c.graph.ensures at c.far_end.ensures) c.work_of-work.ensures
    (c.node.ensures ∙ ap (net_of g.P.Protocol.rules s).node c.node_of.ensures) c.in_ok-message_of.ensures c.row.ensures c.defers.ensures
