use Rattle.peer_lengths.proofs.Playing.{high, low, on_ports, played_of}
use Rattle.peer_lengths.proofs.Carrying.{carried_to, node_kept, out_to, place_of, small}
use Rattle.peer_lengths.proofs.meter.carry.Goals as goal

pub hear-requires : goal.hear-requires
hear-requires g c = place_of g.P.Protocol.rules c.requires.0 c.args.chains.now c.args.event c.requires.3.fits c.requires.1.lawful

pub send-requires-clause-low : goal.send-requires-clause-low
send-requires-clause-low g c =
    let r = g.P.Protocol.rules in
    let h = c.requires.1 in
    let played = played_of r c.requires.0 c.args.net.now c.args.event c.args.sends.now c.trace.ensures.graph c.trace.ensures.run h in
    rw c.node_of.ensures (low r _ _ _ _ played)

pub send-requires-clause-high : goal.send-requires-clause-high
send-requires-clause-high g c =
    let r = g.P.Protocol.rules in
    let h = c.requires.1 in
    let played = played_of r c.requires.0 c.args.net.now c.args.event c.args.sends.now c.trace.ensures.graph c.trace.ensures.run h in
    rw (c.graph.ensures, h.graph, c.node_of.ensures) (high r _ _ _ _ played)

pub send-requires-clause-node : goal.send-requires-clause-node
send-requires-clause-node g c =
    let r = g.P.Protocol.rules in
    let h = c.requires.1 in
    let played = played_of r c.requires.0 c.args.net.now c.args.event c.args.sends.now c.trace.ensures.graph c.trace.ensures.run h in
    let heard = rw (c.requires.2.asleep, c.requires.2.deferred) at c.in_ok-hear.ensures.heard in
    rw c.node_of.ensures (node_kept r _ _ _ _ played c.args.chains.now c.hear.new.self c.requires.3 c.in_ok-hear.ensures.places heard)

pub send-requires-clause-small : goal.send-requires-clause-small
send-requires-clause-small g c =
    let r = g.P.Protocol.rules in
    let h = c.requires.1 in
    let played = played_of r c.requires.0 c.args.net.now c.args.event c.args.sends.now c.trace.ensures.graph c.trace.ensures.run h in
    let heard = rw (c.requires.2.asleep, c.requires.2.deferred) at c.in_ok-hear.ensures.heard in
    rw c.node_of.ensures
    (small r _ _ _ _ played c.args.chains.now c.hear.new.self c.requires.3 c.in_ok-hear.ensures.places heard
    g.met.P.Protocol.has_kinds g.P.Protocol.bound g.met.P.Protocol.is_bounded g.met.P.Protocol.bound_fits)

pub send-requires-clause-ports : goal.send-requires-clause-ports
send-requires-clause-ports g c =
    let r = g.P.Protocol.rules in
    let h = c.requires.1 in
    let played = played_of r c.requires.0 c.args.net.now c.args.event c.args.sends.now c.trace.ensures.graph c.trace.ensures.run h in
    rw (c.graph.ensures, h.graph, c.node_of.ensures) (on_ports r _ _ _ _ played)

pub send-requires-clause-far : goal.send-requires-clause-far
send-requires-clause-far g c =
    let r = g.P.Protocol.rules in
    let h = c.requires.1 in
    let played = played_of r c.requires.0 c.args.net.now c.args.event c.args.sends.now c.trace.ensures.graph c.trace.ensures.run h in
    let heard = rw (c.requires.2.asleep, c.requires.2.deferred) at c.in_ok-hear.ensures.heard in
    rw (c.graph.ensures, h.graph, c.node_of.ensures)
    (out_to r _ _ _ _ played c.args.chains.now c.hear.new.self c.requires.3 c.in_ok-hear.ensures.places heard)

pub returns : goal.returns
returns g c =
    let r = g.P.Protocol.rules in
    let h = c.requires.1 in
    let played = played_of r c.requires.0 c.args.net.now c.args.event c.args.sends.now c.trace.ensures.graph c.trace.ensures.run h in
    let heard = rw (c.requires.2.asleep, c.requires.2.deferred) at c.in_ok-hear.ensures.heard in
    carried_to r _ _ _ _ played c.args.chains.now c.hear.new.self c.requires.3 c.in_ok-hear.ensures.places heard c.args.net.now c.send.new.self
    h.graph h.trace c.in_ok-send.ensures.places (rw (c.graph.ensures, c.node_of.ensures) at c.in_ok-send.ensures.sent)
