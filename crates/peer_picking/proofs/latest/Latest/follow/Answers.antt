use Rattle.std.proofs.Common.{◌≡◌, ◌∙◌, subst, sym, arith}
use Rattle.ghs_graph.specs.Graph.{IsGraph}
use Rattle.peer_index.specs.Places.{place}
use Rattle.peer_index.proofs.lemmas.Places.{place_within}
use Rattle.peer_machine.specs.Net.{event_node, is_lawful}
use Rattle.peer_net.specs.NetState.{NetState, net_of, network}
use Rattle.peer_picking.specs.LifoKept.{with_one}
use Rattle.peer_picking.specs.LifoRuns.{newest_in}
use Rattle.peer_picking.proofs.Counting.{count_few}
use Rattle.peer_picking.proofs.LifoSending.{left_before, next_less, next_port, next_room, none_left, ranks_kept, ranks_without}
use Rattle.peer_picking.proofs.latest.Latest.follow.Goals as goal

pub loop-port-init : goal.loop-port-init
loop-port-init g c =
    left_before g.P.Protocol.rules c.args.world.now c.args.placed.event c.args.sends.now c.args.self.now c.requires.before c.net-net.ensures.run.0

pub send_on-requires-clause-port : goal.send_on-requires-clause-port
send_on-requires-clause-port g c =
    let t = c.args.world.now.net in
    let graph : IsGraph t.graph = subst (λ (n : NetState). IsGraph n.graph) c.net-net.ensures.net c.trace.ensures.graph in
    rw (c.graph-graph.ensures, c.net-net.ensures.net, c.node.ensures)
    (next_port g.P.Protocol.rules t graph c.args.placed.event c.requires.placed.event c.args.sends.now c.loop-port.port-index c.loop-port-item.result
    c.loop-port.self c.loop-port-test.true c.loop-port-item.is c.loop-port.invariant)

pub send_on-requires-clause-few : goal.send_on-requires-clause-few
send_on-requires-clause-few g c =
    let t = c.args.world.now.net in
    let graph : IsGraph t.graph = subst (λ (n : NetState). IsGraph n.graph) c.net-net.ensures.net c.trace.ensures.graph in
    next_room g.P.Protocol.rules t graph c.args.placed.event c.requires.placed.event c.args.sends.now c.loop-port.port-index c.loop-port-item.result
    c.loop-port.self c.loop-port-test.true c.loop-port-item.is c.loop-port.invariant
    (count_few g.P.Protocol.rules t g.P.Protocol.bound g.met.P.Protocol.has_kinds g.met.P.Protocol.is_bounded g.met.P.Protocol.bound_fits graph
    c.net-net.ensures.run.0)

pub send_on-requires-clause-kept : goal.send_on-requires-clause-kept
send_on-requires-clause-kept g c = rw (c.graph-graph.ensures, c.net-net.ensures.net) c.loop-port.invariant.ranks.is_for

pub loop-port-preserved : goal.loop-port-preserved
loop-port-preserved g c =
    let t = c.args.world.now.net in
    let graph : IsGraph t.graph = subst (λ (n : NetState). IsGraph n.graph) c.net-net.ensures.net c.trace.ensures.graph in
    let is : c.send_on.new.self ≡ with_one (network t) (event_node c.args.placed.event) c.loop-port-item.result.0 c.loop-port.self =
    rw (c.graph-graph.ensures, c.net-net.ensures.net, c.node.ensures) at c.send_on.ensures in
    rw is (next_less g.P.Protocol.rules t graph c.args.placed.event c.requires.placed.event c.args.sends.now c.loop-port.port-index
    c.loop-port-item.result c.loop-port.self c.loop-port-test.true c.loop-port-item.is c.loop-port.invariant)

pub set-requires : goal.set-requires
set-requires g c =
    let t = c.args.world.now.net in
    let graph : IsGraph t.graph = subst (λ (n : NetState). IsGraph n.graph) c.net-net.ensures.net c.trace.ensures.graph in
    let but = none_left g.P.Protocol.rules t graph c.args.placed.event c.requires.placed.event c.args.sends.now c.loop-port.port-index
    c.loop-port.self c.loop-port-test.false c.loop-port.invariant in
    let kept = rw (← c.self.view_is) at but.is_for in
    let many = kept.many in
    let within = place_within (network t) c.args.placed.event c.requires.placed.event in
    let at : c.place_of.result ≡ place (network t) c.args.placed.event = rw (c.graph-graph.ensures, c.net-net.ensures.net) at c.place_of.ensures in
    omega (arith, within, many, at)

pub returns-then-not-lawful_placed : goal.returns-then-not-lawful_placed
returns-then-not-lawful_placed g c =
    let r = g.P.Protocol.rules in
    let t = c.args.world.now.net in
    let graph : IsGraph t.graph = subst (λ (n : NetState). IsGraph n.graph) c.net-net.ensures.net c.trace.ensures.graph in
    let but = none_left r t graph c.args.placed.event c.requires.placed.event c.args.sends.now c.loop-port.port-index
    c.loop-port.self c.loop-port-test.false c.loop-port.invariant in
    let at : c.place_of.result ≡ place (network t) c.args.placed.event = rw (c.graph-graph.ensures, c.net-net.ensures.net) at c.place_of.ensures in
    let lawful : c.lawful_placed.result ≡ is_lawful r (network t) (net_of r t) c.args.placed.event =
    rw c.net-net.ensures.net at c.lawful_placed.ensures in
    rw (c.set.ensures, at)
    (ranks_without r (network t) c.args.placed.event c.requires.placed.event (net_of r t) (newest_in r t) _ (rw (← c.self.view_is) at but)
    (sym lawful ∙ c.if-not-lawful_placed.true))

pub returns-else-not-lawful_placed : goal.returns-else-not-lawful_placed
returns-else-not-lawful_placed g c =
    let r = g.P.Protocol.rules in
    let t = c.args.world.now.net in
    let graph : IsGraph t.graph = subst (λ (n : NetState). IsGraph n.graph) c.net-net.ensures.net c.trace.ensures.graph in
    let but = none_left r t graph c.args.placed.event c.requires.placed.event c.args.sends.now c.loop-port.port-index
    c.loop-port.self c.loop-port-test.false c.loop-port.invariant in
    let lawful : c.lawful_placed.result ≡ is_lawful r (network t) (net_of r t) c.args.placed.event =
    rw c.net-net.ensures.net at c.lawful_placed.ensures in
    ranks_kept r (network t) c.args.placed.event c.requires.placed.event (net_of r t) (newest_in r t) c.loop-port.self but
    (sym lawful ∙ c.if-not-lawful_placed.false)
