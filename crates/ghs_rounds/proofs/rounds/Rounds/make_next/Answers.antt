use Rattle.std.proofs.Common.{subst}
use Rattle.ghs_graph.specs.Graph.{IsGraph}
use Rattle.ghs_protocol.specs.Run.{IsRun}
use Rattle.ghs_node.specs.Words.{is_sleeping}
use Rattle.ghs_core.specs.NetState.{NetState, event_node, network}
use Rattle.ghs_world.specs.WorldState.{home}
use Rattle.peer_chains.specs.Kept.{seen}
use Rattle.ghs_core.proofs.lemmas.Reacting.{answer_sends}
use Rattle.ghs_patient.proofs.lemmas.Ports.{marks_own}
use Rattle.ghs_rounds.proofs.Keeping.{keeps, next_are}
use Rattle.ghs_rounds.proofs.Picked.{pickable}
use Rattle.ghs_rounds.proofs.Sending.{IsTimely}
use Rattle.ghs_rounds.proofs.rounds.Rounds.make_next.Goals as goal

pub node-requires-2-clause-low : goal.node-requires-2-clause-low
node-requires-2-clause-low c =
    let z = pickable c.args.world.now c.self.inside.clock c.in_ok-rest.rest c.pick-placed.result.event c.requires.home c.pick-placed.ensures.pick in
    rw c.node.ensures z.low

pub node-requires-2-clause-high : goal.node-requires-2-clause-high
node-requires-2-clause-high c =
    let z = pickable c.args.world.now c.self.inside.clock c.in_ok-rest.rest c.pick-placed.result.event c.requires.home c.pick-placed.ensures.pick in
    rw (c.node.ensures, c.net-2.ensures.net) z.high

pub answer_placed-requires-clause-lawful : goal.answer_placed-requires-clause-lawful
answer_placed-requires-clause-lawful c =
    (pickable c.args.world.now c.self.inside.clock c.in_ok-rest.rest c.pick-placed.result.event c.requires.home c.pick-placed.ensures.pick).lawful

pub hear-requires-clause-lawful : goal.hear-requires-clause-lawful
hear-requires-clause-lawful c =
    (pickable c.args.world.now c.self.inside.clock c.in_ok-rest.rest c.pick-placed.result.event c.requires.home c.pick-placed.ensures.pick).lawful

pub make_answered_placed-requires-clause-ready : goal.make_answered_placed-requires-clause-ready
make_answered_placed-requires-clause-ready c =
    (pickable c.args.world.now c.self.inside.clock c.in_ok-rest.rest c.pick-placed.result.event c.requires.home c.pick-placed.ensures.pick).ready

pub follow-requires-clause-ports : goal.follow-requires-clause-ports
follow-requires-clause-ports c =
    let z = pickable c.args.world.now c.self.inside.clock c.in_ok-rest.rest c.pick-placed.result.event c.requires.home c.pick-placed.ensures.pick in
    let graph : IsGraph c.args.world.now.net.graph = subst (λ (n : NetState). IsGraph n.graph) c.net.ensures.net c.trace.ensures.graph in
    let is_run : IsRun (network c.args.world.now.net) c.args.world.now.net.trace =
    subst (λ (n : NetState). IsRun (network n) n.trace) c.net.ensures.net c.trace.ensures.run in
    rw c.in_ok-make_answered_placed.ensures.made.graph
    (answer_sends c.args.world.now.net graph is_run c.pick-placed.result.event c.in_ok-delta.delta z.lawful c.in_ok-delta.ensures)

pub follow-requires-clause-own : goal.follow-requires-clause-own
follow-requires-clause-own c =
    let z = pickable c.args.world.now c.self.inside.clock c.in_ok-rest.rest c.pick-placed.result.event c.requires.home c.pick-placed.ensures.pick in
    let graph : IsGraph c.args.world.now.net.graph = subst (λ (n : NetState). IsGraph n.graph) c.net.ensures.net c.trace.ensures.graph in
    let is_run : IsRun (network c.args.world.now.net) c.args.world.now.net.trace =
    subst (λ (n : NetState). IsRun (network n) n.trace) c.net.ensures.net c.trace.ensures.run in
    rw c.in_ok-make_answered_placed.ensures.made.graph
    (marks_own c.args.world.now.net graph is_run c.pick-placed.result.event c.in_ok-delta.delta z.lawful c.in_ok-delta.ensures)

pub follow-requires-clause-choices : goal.follow-requires-clause-choices
follow-requires-clause-choices c =
    let are = c.requires.rounds in
    let heard = rw (← c.self-2.view_is) at c.in_ok-hear.ensures in
    rw (c.head.ensures.head, c.node-2.ensures, c.net-2.ensures.net, c.node.ensures)
    (keeps c.args.world.now c.make_answered_placed.new.self c.pick-placed.result.event c.in_ok-delta.delta _ _ are
    c.in_ok-make_answered_placed.ensures.made c.in_ok-delta.ensures heard)

pub returns-clause-rounds : goal.returns-clause-rounds
returns-clause-rounds c =
    let z = pickable c.args.world.now c.self.inside.clock c.in_ok-rest.rest c.pick-placed.result.event c.requires.home c.pick-placed.ensures.pick in
    let graph : IsGraph c.args.world.now.net.graph = subst (λ (n : NetState). IsGraph n.graph) c.net.ensures.net c.trace.ensures.graph in
    let is_run : IsRun (network c.args.world.now.net) c.args.world.now.net.trace =
    subst (λ (n : NetState). IsRun (network n) n.trace) c.net.ensures.net c.trace.ensures.run in
    let are = c.requires.rounds in
    let heard = rw (← c.self-2.view_is) at c.in_ok-hear.ensures in
    let timely : IsTimely (seen c.args.self.now.clock.kept) c.args.self.now.clock.round c.pick-placed.result.event
    (is_sleeping ((home c.args.world.now).node (event_node c.pick-placed.result.event)).head.phase) c.in_ok-delta.delta.fate =
    rw (← c.self.view_is) (z.timely graph is_run c.in_ok-delta.delta c.in_ok-delta.ensures) in
    next_are c.args.world.now c.make_answered_placed.new.self c.pick-placed.result.event c.in_ok-delta.delta _ _ are
    c.in_ok-make_answered_placed.ensures.made c.in_ok-delta.ensures heard
    graph is_run z.low z.high
    (answer_sends c.args.world.now.net graph is_run c.pick-placed.result.event c.in_ok-delta.delta z.lawful c.in_ok-delta.ensures)
    timely c.follow.new.self c.follow.ensures

pub returns-clause-ok : goal.returns-clause-ok
returns-clause-ok c = record {
  event = c.pick-placed.result.event;
  pick = rw (← c.self.view_is, ← c.in_ok-rest.ensures) c.pick-placed.ensures.pick;
  made = c.in_ok-make_answered_placed.ensures.made;
  rest = rw (← c.in_ok-rest.ensures) c.pick-placed.ensures.next;
}
