use Rattle.std.proofs.Common.{◌≡◌, subst}
use Rattle.ghs_graph.specs.Graph.{IsGraph}
use Rattle.peer_network.specs.Events.{event_node}
use Rattle.ghs_protocol.specs.Run.{IsRun}
use Rattle.ghs_core.specs.NetState.{NetState, network}
use Rattle.ghs_orders.specs.Kept.{with_all}
use Rattle.ghs_orders.proofs.Following.{count_then, numbers_then, ranks_then, room_for}
use Rattle.ghs_orders.proofs.latest.Latest.follow.Goals as goal

pub send-requires-clause-few : goal.send-requires-clause-few
send-requires-clause-few c =
    let s = c.args.world.now in
    let graph : IsGraph s.net.graph = subst (λ (n : NetState). IsGraph n.graph) c.net.ensures.net c.trace.ensures.graph in
    let h = rw (← c.self.view_is) at c.requires.latest in
    let is_run : IsRun (network s.net) s.net.trace = subst (λ (n : NetState). IsRun (network n) n.trace) c.net.ensures.net c.trace.ensures.run in
    rw c.as_slice.ensures (room_for s c.args.placed.event c.args.before.now c.args.delta.now _ h graph c.requires.placed.event c.requires.ports
    c.law_sends.ensures is_run c.requires.few)

pub follow-requires-2-clause-few : goal.follow-requires-2-clause-few
follow-requires-2-clause-few c =
    let s = c.args.world.now in
    let graph : IsGraph s.net.graph = subst (λ (n : NetState). IsGraph n.graph) c.net.ensures.net c.trace.ensures.graph in
    let h = rw (← c.self.view_is) at c.requires.latest in
    let is_run : IsRun (network s.net) s.net.trace = subst (λ (n : NetState). IsRun (network n) n.trace) c.net.ensures.net c.trace.ensures.run in
    let is : c.send.new.self ≡ with_all (network s.net) (event_node c.args.placed.event) c.args.delta.now.sends c.self.inside.numbers =
    rw (c.graph.ensures, c.node.ensures, c.as_slice.ensures) at c.send.ensures in
    rw is (count_then s c.args.placed.event c.args.before.now c.args.delta.now _ h graph c.requires.placed.event c.requires.ports
    c.law_sends.ensures is_run c.requires.few)

pub follow-requires-2-clause-kept : goal.follow-requires-2-clause-kept
follow-requires-2-clause-kept c =
    let s = c.args.world.now in
    let graph : IsGraph s.net.graph = subst (λ (n : NetState). IsGraph n.graph) c.net.ensures.net c.trace.ensures.graph in
    let h = rw (← c.self.view_is) at c.requires.latest in
    let is : c.send.new.self ≡ with_all (network s.net) (event_node c.args.placed.event) c.args.delta.now.sends c.self.inside.numbers =
    rw (c.graph.ensures, c.node.ensures, c.as_slice.ensures) at c.send.ensures in
    let numbers = numbers_then s c.args.placed.event c.args.before.now c.args.delta.now _ h graph c.requires.placed.event c.requires.ports in
    rw is numbers.for_all

pub follow-requires-2-clause-ranks : goal.follow-requires-2-clause-ranks
follow-requires-2-clause-ranks c =
    let s = c.args.world.now in
    let graph : IsGraph s.net.graph = subst (λ (n : NetState). IsGraph n.graph) c.net.ensures.net c.trace.ensures.graph in
    let h = rw (← c.self.view_is) at c.requires.latest in
    let is : c.send.new.self ≡ with_all (network s.net) (event_node c.args.placed.event) c.args.delta.now.sends c.self.inside.numbers =
    rw (c.graph.ensures, c.node.ensures, c.as_slice.ensures) at c.send.ensures in
    rw is (ranks_then s c.args.placed.event c.args.before.now c.args.delta.now _ h graph c.requires.placed.event c.requires.ports)

pub returns : goal.returns
returns c =
    let s = c.args.world.now in
    let graph : IsGraph s.net.graph = subst (λ (n : NetState). IsGraph n.graph) c.net.ensures.net c.trace.ensures.graph in
    let h = rw (← c.self.view_is) at c.requires.latest in
    let is : c.send.new.self ≡ with_all (network s.net) (event_node c.args.placed.event) c.args.delta.now.sends c.self.inside.numbers =
    rw (c.graph.ensures, c.node.ensures, c.as_slice.ensures) at c.send.ensures in
    record {
      choices = c.follow.ensures;
      numbers = rw is (numbers_then s c.args.placed.event c.args.before.now c.args.delta.now _ h graph c.requires.placed.event c.requires.ports);
      ranks = c.follow-2.ensures;
    }
