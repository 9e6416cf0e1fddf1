use Rattle.std.proofs.Common.{subst}
use Rattle.ghs_core.specs.NetState.{NetState, net_of, network}
use Rattle.ghs_protocol.specs.Run.{IsRun}
use Rattle.ghs_protocol.specs.Laws.{IsNetOf}
use Rattle.ghs_graph.specs.Graph.{IsGraph}
use Rattle.ghs_world.specs.WorldState.{home, wakers}
use Rattle.peer_network.proofs.lemmas.Waking.{each_is_woken}
use Rattle.ghs_patient.proofs.lemmas.Picks.{is_net, pickable, seconds_go, some_patient}
use Rattle.ghs_core.proofs.lemmas.Reacting.{answer_sends}
use Rattle.ghs_patient.proofs.lemmas.Ports.{marks_own}
use Rattle.ghs_patient.proofs.lemmas.Stirring.{keeps}
use Rattle.ghs_picking.proofs.Happening.{made_kept}
use Rattle.ghs_picking.proofs.patient.make_next.Goals as goal

pub pick-placed-requires-clause-seconds : goal.pick-placed-requires-clause-seconds
pick-placed-requires-clause-seconds g c =
    seconds_go c.args.world.now.net.graph (wakers c.args.world.now) (home c.args.world.now) c.law_one_waits.ensures
    (subst (λ (n : NetState). IsNetOf n.graph (net_of n)) c.net.ensures.net (is_net c.net.result.now c.trace.ensures.graph c.trace.ensures.run))

pub pick-placed-requires-clause-some : goal.pick-placed-requires-clause-some
pick-placed-requires-clause-some g c =
    let graph : IsGraph c.args.world.now.net.graph = subst (λ (n : NetState). IsGraph n.graph) c.net.ensures.net c.trace.ensures.graph in
    some_patient c.args.world.now.net.graph (wakers c.args.world.now) (home c.args.world.now) c.law_patience_lasts.ensures
    (subst (λ (n : NetState). IsNetOf n.graph (net_of n)) c.net.ensures.net (is_net c.net.result.now c.trace.ensures.graph c.trace.ensures.run))
    (each_is_woken c.args.world.now.net.graph c.args.world.now.wake graph) c.requires.going

pub node-requires-2-clause-low : goal.node-requires-2-clause-low
node-requires-2-clause-low g c =
    let z = pickable c.args.world.now c.in_ok-rest.rest c.pick-placed.result.event c.requires.home c.pick-placed.ensures.pick in
    rw c.node.ensures z.low

pub node-requires-2-clause-high : goal.node-requires-2-clause-high
node-requires-2-clause-high g c =
    let z = pickable c.args.world.now c.in_ok-rest.rest c.pick-placed.result.event c.requires.home c.pick-placed.ensures.pick in
    rw (c.node.ensures, c.net-2.ensures.net) z.high

pub answer_placed-requires-clause-lawful : goal.answer_placed-requires-clause-lawful
answer_placed-requires-clause-lawful g c =
    (pickable c.args.world.now c.in_ok-rest.rest c.pick-placed.result.event c.requires.home c.pick-placed.ensures.pick).lawful

pub make_answered_placed-requires-clause-ready : goal.make_answered_placed-requires-clause-ready
make_answered_placed-requires-clause-ready g c =
    (pickable c.args.world.now c.in_ok-rest.rest c.pick-placed.result.event c.requires.home c.pick-placed.ensures.pick).ready

pub follow-requires-clause-lawful : goal.follow-requires-clause-lawful
follow-requires-clause-lawful g c =
    rw c.net-3.ensures.net (pickable c.args.world.now c.in_ok-rest.rest c.pick-placed.result.event c.requires.home c.pick-placed.ensures.pick).lawful

pub follow-requires-2-clause-ports : goal.follow-requires-2-clause-ports
follow-requires-2-clause-ports g c =
    let z = pickable c.args.world.now c.in_ok-rest.rest c.pick-placed.result.event c.requires.home c.pick-placed.ensures.pick in
    let made = c.in_ok-make_answered_placed.ensures.made in
    let graph : IsGraph c.args.world.now.net.graph = subst (λ (n : NetState). IsGraph n.graph) c.net.ensures.net c.trace.ensures.graph in
    let is_run : IsRun (network c.args.world.now.net) c.args.world.now.net.trace =
    subst (λ (n : NetState). IsRun (network n) n.trace) c.net.ensures.net c.trace.ensures.run in
    rw made.graph (answer_sends c.args.world.now.net graph is_run c.pick-placed.result.event c.in_ok-delta.delta z.lawful c.in_ok-delta.ensures)

pub follow-requires-2-clause-own : goal.follow-requires-2-clause-own
follow-requires-2-clause-own g c =
    let z = pickable c.args.world.now c.in_ok-rest.rest c.pick-placed.result.event c.requires.home c.pick-placed.ensures.pick in
    let made = c.in_ok-make_answered_placed.ensures.made in
    let graph : IsGraph c.args.world.now.net.graph = subst (λ (n : NetState). IsGraph n.graph) c.net.ensures.net c.trace.ensures.graph in
    let is_run : IsRun (network c.args.world.now.net) c.args.world.now.net.trace =
    subst (λ (n : NetState). IsRun (network n) n.trace) c.net.ensures.net c.trace.ensures.run in
    rw made.graph (marks_own c.args.world.now.net graph is_run c.pick-placed.result.event c.in_ok-delta.delta z.lawful c.in_ok-delta.ensures)

pub follow-requires-2-clause-choices : goal.follow-requires-2-clause-choices
follow-requires-2-clause-choices g c =
    rw (c.head.ensures.head, c.node-2.ensures, c.net-2.ensures.net, c.node.ensures)
    (keeps c.args.world.now c.make_answered_placed.new.self c.pick-placed.result.event c.in_ok-delta.delta c.args.choices.now c.requires.choices
    c.in_ok-make_answered_placed.ensures.made c.in_ok-delta.ensures)

pub returns-clause-kept : goal.returns-clause-kept
returns-clause-kept g c =
    made_kept g.F.Follower.is_of c.args.world.now c.make_answered_placed.new.self c.net-3.result.now c.pick-placed.result.event c.follow.new.self
    c.net-3.ensures.net c.in_ok-follow.ensures c.in_ok-make_answered_placed.ensures.made
